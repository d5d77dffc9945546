-- Any list of blocks, chained through the contracts of start, block and finish, answers for all of their bytes, however
-- they were cut: what a start has is carried on block by block (`fed`), and a finish answers by it (`chained`).
-- Assumes nothing.
use mathlib.Core.Path.{◌≡◌, refl, ◌∙◌}
use mathlib.Core.List.{List, [], ◌++◌, append-nil, append_assoc}
use Prim.Native.Nat.{ℕ}
use lib.ListN.{length}
use Rattle.description.specs.declared.Description.{Description}
use Rattle.rtree.specs.declared.Opened.{Opened}
use Rattle.parts_state.specs.declared.Parts.{Parts}
use Rattle.parts_state.specs.Parts.{parts_answer}
use Rattle.parts_state.specs.Took.{Took, Starts, Answers, Fed, none, more, all_bytes}

module _ (d : Description) (F : ℕ) (footer : List ℕ) (stated : ℕ) where
  fed : {s r : Parts} {work after : List ℕ} {blocks : List (List ℕ)} → Fed s work blocks r after → (got : List ℕ)
      → Took d F footer stated got s work
      → (length after ≡ length work) × Took d F footer stated (got ++ all_bytes blocks) r after
  unfolding all_bytes
  fed none got took = (refl, rw append-nil took)
  fed (more {block = block} {blocks = blocks} c rest) got took =
      let on = fed rest (got ++ block) (c.took d F footer stated got took) in
      (on.0 ∙ c.room, rw append_assoc at on.1)

  pub chained : {s r : Parts} {work after : List ℕ} {blocks : List (List ℕ)} {answer : Opened}
      → Starts d F footer stated s → Fed s work blocks r after → Answers r after answer
      → answer ≡ parts_answer d F footer stated (length work) (all_bytes blocks)
  chained {s} {r} {work} {after} {blocks} {answer} begun blocks-fed ends =
      let on = fed blocks-fed [] (begun work) in
      ends d F footer stated (all_bytes blocks) on.1 ∙ rw on.0
