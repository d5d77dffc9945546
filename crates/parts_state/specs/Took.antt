-- What state and work buffer hold of the bytes received: as much as it takes to go on, whatever bytes follow. A start
-- has it for any buffer, a block carries it on, and a finish answers by it.
-- Assumes nothing.
use Rattle.std.specs.Prelude.{ℕ, ◌≤◌, ◌<◌, ◌≡◌, List, [], ◌∷◌, ◌++◌, length, take}
use Rattle.description.specs.declared.Description.{Description}
use Rattle.description.specs.Description.{bytes_of_box}
use Rattle.description.specs.Limits.{least_fanout, most_fanout}
use Rattle.tree.specs.Shape.{levels, body_bytes}
use Rattle.footer.specs.Fields.{tiles_of}
use Rattle.footer.specs.Checks.{footer_refusal}
use Rattle.rtree.specs.declared.Opened.{Opened}
use Rattle.rtree.specs.Body.{fanout_of, levels_of}
use Rattle.parts_state.specs.declared.Parts.{Parts}
use Rattle.parts_state.specs.Parts.{inner_bytes, parts_answer}
use Rattle.parts_state.specs.Code.State.{Holds}

-- a body that begins with these bytes
abbrev pub Begins : List ℕ → List ℕ → Type 0
Begins got body = take (length got) body ≡ got

-- After the bytes `got`: of every body that begins with them the state has what is refused for good, or else what their
-- whole numbers and boxes come to and the bytes of the one that has come in part, and the work buffer has the inner
-- boxes that are still needed.
unfoldable pub Took : Description → ℕ → List ℕ → ℕ → List ℕ → Parts → List ℕ → Type 0
Took d F footer stated got s work =
    (body : List ℕ) → Begins got body → Holds d F footer stated body work s (length got)

-- The contracts. A start, for a work buffer of any contents.
abbrev pub Starts : Description → ℕ → List ℕ → ℕ → Parts → Type 0
Starts d F footer stated s = (work : List ℕ) → Took d F footer stated [] s work

-- A block goes on from state and work buffer as the last call left them: with all bytes so far and the block after
-- them. The work buffer keeps its length.
pub record Carries (s : Parts) (work bytes : List ℕ) (r : Parts) (after : List ℕ) : Type 0 where
  pub room : length after ≡ length work
  pub took : (d : Description) (F : ℕ) (footer : List ℕ) (stated : ℕ) (got : List ℕ)
      → Took d F footer stated got s work → Took d F footer stated (got ++ bytes) r after

-- A finish answers for all bytes so far.
abbrev pub Answers : Parts → List ℕ → Opened → Type 0
Answers s work r =
    (d : Description) (F : ℕ) (footer : List ℕ) (stated : ℕ) (got : List ℕ)
    → Took d F footer stated got s work → r ≡ parts_answer d F footer stated (length work) got

-- Blocks in turn, each from state and work buffer as the one before it left them.
pub data Fed : Parts → List ℕ → List (List ℕ) → Parts → List ℕ → Type 0 where
  none : {s : Parts} {work : List ℕ} → Fed s work [] s work
  more : {s t r : Parts} {work between after block : List ℕ} {blocks : List (List ℕ)}
      → Carries s work block t between → Fed t between blocks r after → Fed s work (block ∷ blocks) r after

-- All bytes of the blocks.
unfoldable pub all_bytes : List (List ℕ) → List ℕ
all_bytes [] = []
all_bytes (block ∷ blocks) = block ++ all_bytes blocks

-- 21: the footer passed; once the fanout is known, and the checks before it passed, a work buffer of fewer bytes than the
-- inner boxes take.
pub record Due (d : Description) (F : ℕ) (footer : List ℕ) (stated room : ℕ) (got : List ℕ) : Type 0 where
  pub passed : (footer_refusal d F footer).number ≡ 0
  pub enough : 8 ≤ stated
  pub known : 4 ≤ length got
  pub least : least_fanout ≤ fanout_of got
  pub most : fanout_of got ≤ most_fanout
  pub leveled : 8 ≤ length got → levels_of got ≡ levels (fanout_of got) (tiles_of d footer)
  pub whole : stated ≡ body_bytes (fanout_of got) (tiles_of d footer) (bytes_of_box d)
  pub short : room < inner_bytes (fanout_of got) (tiles_of d footer) (bytes_of_box d)
