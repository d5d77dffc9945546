-- What does a box test promise? One that isn't refused has passed its checks, so the box's bytes are all there and its number of dimensions is D; then its
-- number is that of `box_read`, which is one more than the first miss's, or D.
-- Assumes nothing.
use Prim.Native.Nat.{ℕ, ◌≤◌}
use mathlib.Core.Path.{◌≡◌, refl, sym, ◌∙◌}
use mathlib.Core.Bool.{Bool, true, false, cond}
use mathlib.Core.List.{List}
use native.Mathlib.Omega.{arith}
use lib.Dec.{eqb}
use lib.ListN.{length}
use borrow.Author.Tests.{eq-eqb, ne_eqb, eqb-true, not-false}
use Rattle.answers.specs.declared.Refusal.{Refusal}
use Rattle.answers.proofs.Checks.{clear, check-clear}
use Rattle.description.specs.declared.Description.{Description}
use Rattle.description.specs.Description.{side_start, sides_of, bytes_of_box}
use Rattle.description.proofs.Limits.{Kept, kept}
use Rattle.boxes.specs.declared.Window.{Window}
use Rattle.boxes.specs.Boxes.{range_in, box_meets, box_read}
use Rattle.boxes.specs.Windows.{window_refusal}
use Rattle.windows.specs.Code.Carried.{Fitting}
use Rattle.ranges.specs.Ranges.{kind_of}
use Rattle.boxes.proofs.ReadTo.{box-read-miss, box-read-all}
use Rattle.query.specs.declared.BoxTest.{BoxTest}
use Rattle.query.specs.declared.Tested.{Tested}
use Rattle.query.specs.BoxTest.{box_test_refusal, box_test_refusal_by, box_test_answer, box_test_answer_by, ReadUp}
use Rattle.query.specs.declared.Asked.{Asked}
use Rattle.query.specs.Code.Walking.{asked_of, meets_asked, read_asked, Carried}
use Rattle.query.proofs.Window.{Fit, carries, meets-same, read_same}

abbrev pub refused_test : Refusal → BoxTest
refused_test r = record { number = r.number; place = r.place; tested = record { meets = false; read = 0 } }

abbrev pub told_test : Tested → BoxTest
told_test t = record { number = 0; place = 0; tested = t }

-- what a box test that isn't refused has passed
pub record Cleared (d : Description) (bytes : List ℕ) (w : Window) : Type 0 where
  pub described : Kept d
  pub windowed : (window_refusal d w).number ≡ 0
  pub whole : length bytes ≡ bytes_of_box d

module _ (d : Description) (bytes : List ℕ) (w : Window) where
  abbrev pub tested_as : Tested
  tested_as = record {
    meets = box_meets d.kinds (sides_of d.dimensions) bytes w.sides;
    read = box_read d.kinds (sides_of d.dimensions) bytes w.sides;
  }

  pub passed-all : (box_test_refusal d bytes w).number ≡ 0 → Cleared d bytes w
  unfolding box_test_refusal_by
  passed-all h =
      let a = clear _ _ h in
      let b = clear _ _ a.1 in
      let c = clear _ _ b.1 in
      record {
        described = kept d a.0;
        windowed = b.0;
        whole = eqb-true (length bytes) (bytes_of_box d) (not-false (eqb (length bytes) (bytes_of_box d)) (check-clear _ _ _ (omega arith) c.0));
      }

  refused-answer : ((box_test_refusal d bytes w).number ≡ 0 → ⊥) → refused_test (box_test_refusal d bytes w) ≡ box_test_answer d bytes w
  unfolding box_test_answer_by
  refused-answer some = rw (ne_eqb (box_test_refusal d bytes w).number 0 some)

  clear-answer : (box_test_refusal d bytes w).number ≡ 0 → box_test_answer d bytes w ≡ told_test tested_as
  unfolding box_test_answer_by
  clear-answer h = rw (eq-eqb (box_test_refusal d bytes w).number 0 h)

  answer-clear : (box_test_answer d bytes w).number ≡ 0 → (box_test_refusal d bytes w).number ≡ 0
  unfolding box_test_answer_by
  answer-clear h = go (eqb (box_test_refusal d bytes w).number 0) refl h
    where
      go : (t : Bool) → eqb (box_test_refusal d bytes w).number 0 ≡ t
          → (cond t (told_test tested_as) (refused_test (box_test_refusal d bytes w))).number ≡ 0 → (box_test_refusal d bytes w).number ≡ 0
      go true e h = eqb-true (box_test_refusal d bytes w).number 0 e
      go false e h = h

  reads : Kept d → ReadUp d bytes w tested_as
  reads k =
      let m = sides_of d.dimensions in
      record {
        missed = λ i l p h. box-read-miss d.kinds m bytes w.sides i (rw k.sides l) p h;
        met = λ h. box-read-all d.kinds m bytes w.sides h ∙ k.sides;
      }

  -- the number, wherever a box test isn't refused
  pub reads_up : (box_test_answer d bytes w).number ≡ 0 → ReadUp d bytes w (box_test_answer d bytes w).tested
  reads_up h =
      let clear = answer-clear h in
      rw (clear-answer clear) (reads (passed-all clear).described)

  -- the clauses of `box_test`, in their order
  abbrev pub Promised : BoxTest → Type 0
  Promised r = (r ≡ box_test_answer d bytes w) × (r.number ≡ 0 → ReadUp d bytes w r.tested)

  promised : {r : BoxTest} → r ≡ box_test_answer d bytes w → Promised r
  promised e = (e, λ h. rw e (reads_up (rw e at h)))

  pub refusing : {r : Refusal} → r ≡ box_test_refusal d bytes w → (r.number ≡ 0 → ⊥) → Promised (refused_test r)
  refusing e some = promised (rw e (refused-answer (rw e at some)))

  -- the code's test, of the window as it is carried
  module _ (clear : (box_test_refusal d bytes w).number ≡ 0) {a : Asked} (is : a ≡ asked_of d w)
      (fitting : Fitting (λ i. kind_of (range_in w.sides i)) a.ends a.dimensions) where
    fit : Fit d w (passed-all clear).windowed
    fit = rw is at fitting

    pub asked : (side_start a.kinds a.dimensions ≤ length bytes) × Carried a
    unfolding bytes_of_box
    asked =
        let p = passed-all clear in
        rw is (omega (arith, p.whole), carries d w p.windowed fit)

    pub answering : {t : Tested} → (t.meets ≡ meets_asked a bytes) × (t.read ≡ read_asked a bytes) → Promised (told_test t)
    answering told =
        let passed = (passed-all clear).windowed in
        let met = rw is at told.0 ∙ meets-same d w passed fit bytes in
        let read = rw is at told.1 ∙ read_same d w passed fit bytes in
        promised ((λ i. told_test (record { meets = met i; read = read i })) ∙ sym (clear-answer clear))
