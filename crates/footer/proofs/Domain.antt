-- What is told of the domain's ranges at one place is told of them at any. Assumes nothing.
use mathlib.Core.Path.{◌≡◌, sym, ◌∙◌}
use mathlib.Core.List.{List}
use Prim.Native.Nat.{ℕ}
use Rattle.answers.specs.Refusals.{none}
use Rattle.answers.proofs.Moved.{moved-clear, moved-number}
use Rattle.description.specs.declared.Dimension.{Dimension}
use Rattle.boxes.specs.Boxes.{ranges_refusal}
use Rattle.boxes.proofs.Moving.{ranges-moved, ranges-none}

module _ (kinds : List Dimension) (m : ℕ) (bytes : List ℕ) where
  -- ranges that are not refused at one place are refused at none
  pub ranges-anywhere : (from to : ℕ) → (ranges_refusal kinds m bytes from).number ≡ 0 → ranges_refusal kinds m bytes to ≡ none
  ranges-anywhere from to h =
      let r = ranges_refusal kinds m bytes 0 in
      let z : r.number ≡ 0 = sym (moved-number from r) ∙ rw (ranges-moved kinds m bytes from) at h in
      ranges-moved kinds m bytes to ∙ moved-clear to r z ∙ ranges-none kinds m bytes 0 z
