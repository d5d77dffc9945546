-- Bytes that add up to the stated length come to what opening the whole says, unless 21 is due. What is shown of a body
-- that is there whole is what its shape says (`shown-shape`), check by check; `whole` is the theorem.
-- Assumes nothing.
use mathlib.Core.Path.{◌≡◌, refl, ◌∙◌}
use mathlib.Core.Bool.{Bool, true, false}
use mathlib.Core.List.{List, [], ◌∷◌}
use Prim.Native.Nat.{ℕ, ◌-◌, ◌≤◌, min}
use native.Mathlib.Omega.{arith}
use lib.Dec.{ltb, eqb}
use lib.ListN.{length}
use borrow.Author.Tests.{ne_eqb, le-leb, ltb-false, eqb-true, eqb-false}
use Rattle.answers.specs.Refusals as refusals
use Rattle.answers.specs.Checks.{otherwise, first}
use Rattle.answers.specs.declared.Refusal.{Refusal}
use Rattle.answers.proofs.Runs.{over-ext}
use Rattle.answers.proofs.Checks.{halt, last, each_none}
use Rattle.description.specs.declared.Description.{Description}
use Rattle.description.specs.Description.{bytes_of_box}
use Rattle.description.specs.Limits.{least_fanout, most_fanout, outside}
use Rattle.tree.specs.Shape.{height, levels, level_start, body_bytes}
use Rattle.tree.proofs.Places.{level-inside}
use Rattle.footer.specs.Fields.{tiles_of, domain_bytes}
use Rattle.footer.specs.Checks.{footer_refusal}
use Rattle.rtree.specs.Body.{fanout_of, levels_of, count_refusal, counts_refusal, stored_count, front_refusal, size_refusal, shape_refusal}
use Rattle.rtree.specs.Opening.{boxes_refusal, body_refusal, open_answer, open_answer_by}
use Rattle.parts_state.specs.Parts.{inner_bytes, front_shown, count_shown, counts_shown, shown_refusal, parts_answer}
use Rattle.parts_state.proofs.Shown.{say-footer, say-shown, say-open}

module _ (n b stated room : ℕ) (body : List ℕ) (all : length body ≡ stated) where
  abbrev f : ℕ
  f = fanout_of body

  abbrev have : ℕ
  have = min (length body) stated

  abbrev shown : Refusal
  shown = shown_refusal n b have body stated room

  abbrev stored : ℕ → Refusal
  stored l = count_refusal f n b (stored_count n b body (height f n - l)) (height f n - l)

  -- every count is there
  counts-there : stated ≡ body_bytes f n b → counts_shown n b have body ≡ counts_refusal f n b (stored_count n b body)
  unfolding counts_shown counts_refusal
  counts-there whole =
      over-ext otherwise refusals.none (λ l. count_shown n b have body (height f n - l)) stored 0 (levels f n)
      (λ l low high.
      let there : level_start f n b (height f n - l) ≤ have = omega (arith, level-inside f n b (height f n - l) (omega arith)) in
      rw (le-leb _ _ there))

  counts-last : first (counts_refusal f n b (stored_count n b body) ∷ []) ≡ counts_refusal f n b (stored_count n b body)
  unfolding counts_refusal
  counts-last = last (counts_refusal f n b (stored_count n b body)) (each_none stored 0 (levels f n))

  pub shown-shape : (shown.number ≡ refusals.work → ⊥) → shown ≡ shape_refusal n b body
  unfolding shown_refusal front_shown shape_refusal front_refusal size_refusal first
  shown-shape due = small (ltb stated 8) refl
    where
      room-is : (t : Bool) → ltb room (inner_bytes f n b) ≡ t → ltb stated 8 ≡ false → outside least_fanout most_fanout f ≡ false
          → eqb (levels_of body) (levels f n) ≡ true → eqb stated (body_bytes f n b) ≡ true → shown ≡ shape_refusal n b body
      room-is true r a o l w =
          let enough : 8 ≤ have = omega (arith, ltb-false stated 8 a) in
          let some : shown ≡ refusals.refusal refusals.work 0 =
          rw (a, le-leb 4 have (omega arith), le-leb 8 have enough, o, l, w, r) in
          absurd (due (rw some))
      room-is false r a o l w =
          let enough : 8 ≤ have = omega (arith, ltb-false stated 8 a) in
          rw (
            le-leb 4 have (omega arith),
            le-leb 8 have enough,
            counts-there (eqb-true _ _ w),
            counts-last,
            all,
            a,
            o,
            l,
            w,
            r,
          )

      size_is : (t : Bool) → eqb stated (body_bytes f n b) ≡ t → ltb stated 8 ≡ false → outside least_fanout most_fanout f ≡ false
          → eqb (levels_of body) (levels f n) ≡ true → shown ≡ shape_refusal n b body
      size_is true w a o l = room-is (ltb room (inner_bytes f n b)) refl a o l w
      size_is false w a o l =
          let enough : 8 ≤ have = omega (arith, ltb-false stated 8 a) in
          rw (le-leb 4 have (omega arith), le-leb 8 have enough, all, a, o, l, w)

      levels-are : (t : Bool) → eqb (levels_of body) (levels f n) ≡ t → ltb stated 8 ≡ false → outside least_fanout most_fanout f ≡ false
          → shown ≡ shape_refusal n b body
      levels-are true l a o = size_is (eqb stated (body_bytes f n b)) refl a o l
      levels-are false l a o =
          let enough : 8 ≤ have = omega (arith, ltb-false stated 8 a) in
          rw (le-leb 4 have (omega arith), le-leb 8 have enough, all, a, o, l)

      fanout-is : (t : Bool) → outside least_fanout most_fanout f ≡ t → ltb stated 8 ≡ false → shown ≡ shape_refusal n b body
      fanout-is true o a =
          let enough : 8 ≤ have = omega (arith, ltb-false stated 8 a) in
          rw (le-leb 4 have (omega arith), all, a, o)
      fanout-is false o a = levels-are (eqb (levels_of body) (levels f n)) refl a o

      small : (t : Bool) → ltb stated 8 ≡ t → shown ≡ shape_refusal n b body
      small true a = rw (all, a)
      small false a = fanout-is (outside least_fanout most_fanout f) refl a

-- Where the blocks add up to the stated length and 21 isn't due, every field of the answer is that of opening the whole.
module _ (d : Description) (F : ℕ) (footer : List ℕ) (stated room : ℕ) (body : List ℕ) (all : length body ≡ stated) where
  abbrev n : ℕ
  n = tiles_of d footer

  abbrev told : Refusal
  told = shown n (bytes_of_box d) stated room body all

  pub whole : ((parts_answer d F footer stated room body).number ≡ refusals.work → ⊥)
      → parts_answer d F footer stated room body ≡ open_answer d F footer body
  unfolding open_answer_by body_refusal
  whole due = go (eqb (footer_refusal d F footer).number 0) refl (eqb told.number 0) refl
    where
      go : (t : Bool) → eqb (footer_refusal d F footer).number 0 ≡ t → (u : Bool) → eqb told.number 0 ≡ u
          → parts_answer d F footer stated room body ≡ open_answer d F footer body
      go false e u q = say-footer d F footer stated room body (eqb-false _ 0 e) ∙ rw e
      go true e true q = say-open d F footer stated room body (eqb-true _ 0 e) (eqb-true _ 0 q) all
      go true e false q =
          let some = eqb-false told.number 0 q in
          let says = say-shown d F footer stated room body (eqb-true _ 0 e) some in
          let other : told.number ≡ refusals.work → ⊥ = λ z. due (rw says z) in
          let shape = shown-shape n (bytes_of_box d) stated room body all other in
          let shape-some : (shape_refusal n (bytes_of_box d) body).number ≡ 0 → ⊥ = rw shape at some in
          says
          ∙ rw (ne_eqb told.number refusals.work other, e, halt (shape_refusal n (bytes_of_box d) body) (boxes_refusal d n body (domain_bytes d footer)) shape-some, ne_eqb (shape_refusal n (bytes_of_box d) body).number 0 shape-some, shape)
