-- The ends of a range where they are read: in a part of the bytes they are those of the whole (`ends-part`), and a pattern
-- that was read of bytes fits its kind (`low-fitted`, `high-fitted`).
-- Assumes nothing.
use mathlib.Core.Path.{◌≡◌, ◌∙◌}
use mathlib.Core.List.{List}
use Prim.Native.Nat.{ℕ, ◌+◌, ◌≤◌, ◌<◌}
use native.Mathlib.Nat.{add_assoc}
use native.Mathlib.Omega.{arith}
use lib.ListN.{length, get_or, take, drop, length-take, length-drop}
use borrow.Author.Tests.{le-leb}
use Rattle.order.specs.Little.{first_of_two, second_of_two}
use Rattle.order.proofs.Little.{little-part}
use Rattle.description.specs.declared.Kind.{Kind}
use Rattle.description.specs.Kinds.{end_bytes}
use Rattle.ranges.specs.Ranges.{ends_at, fitted}
use Rattle.ranges.proofs.Reading.{fitted-same, ends-at-fit}

-- a range in a part of the bytes
pub ends-part : (kind : Kind) (s : List ℕ) (p b q : ℕ) → q + (end_bytes kind + end_bytes kind) ≤ b → p + b ≤ length s
    → ends_at kind (take b (drop p s)) q ≡ ends_at kind s (p + q)
unfolding ends_at first_of_two second_of_two
ends-part kind s p b q h there =
    let w = end_bytes kind in
    let long : length (take b (drop p s)) ≡ b = simp (length-take, length-drop) (omega arith) in
    rw (
      le-leb (q + (w + w)) (length (take b (drop p s))) (omega (arith, long)),
      le-leb (p + q + (w + w)) (length s) (omega arith),
      little-part s p b q w (omega arith),
      little-part s p b (q + w) w (omega arith),
      add_assoc p q w,
    )

-- the end that a pattern was read of
module _ (s : List ℕ) (byte : (i : ℕ) → get_or s i 0 < 256) (k : Kind) (at : ℕ) where
  pub low-fitted : {p x : ℕ} → p ≡ (ends_at k s at).low → x ≡ fitted k p → x ≡ (ends_at k s at).low
  low-fitted e q = q ∙ rw (e, fitted-same k (ends_at k s at).low (ends-at-fit s byte k at).0)

  pub high-fitted : {p x : ℕ} → p ≡ (ends_at k s at).high → x ≡ fitted k p → x ≡ (ends_at k s at).high
  high-fitted e q = q ∙ rw (e, fitted-same k (ends_at k s at).high (ends-at-fit s byte k at).1)
