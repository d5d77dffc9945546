-- Where no leaf's range has a fault in any dimension, the leaves have none: a leaf's range stands in its box as it stands
-- in the leaves.
-- Assumes nothing.
use mathlib.Core.Path.{◌≡◌, refl, ap, ◌∙◌}
use mathlib.Core.List.{List}
use Prim.Native.Nat.{ℕ, ◌+◌, ◌*◌, ◌≤◌, ◌<◌}
use native.Mathlib.Nat.{zero-add, mul-le-mul_right}
use native.Mathlib.Omega.{arith}
use lib.ListN.{length}
use Rattle.answers.specs.Refusals.{none}
use Rattle.answers.specs.declared.Refusal.{Refusal}
use Rattle.answers.proofs.Checks.{all-clear, each-has}
use Rattle.description.specs.declared.Kind.{Kind}
use Rattle.description.specs.declared.Description.{Description}
use Rattle.description.specs.Description.{kind_at, side_start, sides_of, bytes_of_box}
use Rattle.description.proofs.Sides.{two_ends, start_up}
use Rattle.ranges.specs.Ranges.{ends_at}
use Rattle.verdicts.specs.Verdicts.{verdict_at, stored_refusal}
use Rattle.verdicts.proofs.Judging.{stored-sound}
use Rattle.boxes.specs.Boxes.{ranges_refusal}
use Rattle.answers.proofs.Moved.{moved-clear}
use Rattle.boxes.proofs.Moving.{ranges-moved, ranges-none}
use Rattle.boxes.proofs.Walking.{told_at}
use Rattle.leaves.specs.Code.Sound.{box_in, SoundEnds, SoundSide, leaves_refusal}
use Rattle.leaves.proofs.Ends.{ends-part}

-- ends that are finite and in order
pub sound-stored : (kind : Kind) (s : List ℕ) (at place : ℕ) → SoundEnds kind (ends_at kind s at).low (ends_at kind s at).high
    → (stored_refusal (verdict_at kind s at) place).number ≡ 0
unfolding ends_at
sound-stored kind s at place h = ap (λ (r : Refusal). r.number) (stored-sound kind _ _ _ place h.0 h.1 h.2)

module _ (d : Description) (n : ℕ) (leaves : List ℕ) (whole : length leaves ≡ n * bytes_of_box d)
    (sound : (i : ℕ) → i < sides_of d.dimensions
    → SoundSide (kind_at d.kinds i) leaves (bytes_of_box d) (side_start d.kinds i) n) where
  leaf-clear : (k : ℕ) → k < n → (ranges_refusal d.kinds (sides_of d.dimensions) (box_in leaves (bytes_of_box d) k) 0).number ≡ 0
  unfolding ranges_refusal bytes_of_box
  leaf-clear k h =
      let m = sides_of d.dimensions in
      let b = side_start d.kinds m in
      each-has (λ r. r.number ≡ 0) (told_at d.kinds (box_in leaves b k) 0) 0 m refl
      (λ i from to.
      let kind = kind_at d.kinds i in
      let s = side_start d.kinds i in
      let inside = start_up d.kinds i m (omega arith) in
      let there : k * b + b ≤ length leaves = omega (arith, whole, mul-le-mul_right b h) in
      let same = ends-part kind leaves (k * b) b s (omega (arith, inside, two_ends kind)) there in
      rw (zero-add, same) (sound i (omega arith) k h))

  pub leaves-sound : leaves_refusal d n leaves ≡ none
  unfolding leaves_refusal
  leaves-sound =
      all-clear _ 0 n (λ k from to.
      let m = sides_of d.dimensions in
      let box = box_in leaves (bytes_of_box d) k in
      let clear = leaf-clear k (omega arith) in
      ranges-moved d.kinds m box (k * bytes_of_box d)
      ∙ moved-clear (k * bytes_of_box d) (ranges_refusal d.kinds m box 0) clear
      ∙ ranges-none d.kinds m box 0 clear)
