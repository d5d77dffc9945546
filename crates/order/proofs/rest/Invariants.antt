-- `order::rest` meets its contract. The loop goes from the last byte back to the place: what is made so far is the
-- number of the bytes from i on, as many as are left of eight. Assumes nothing.
use Prim.Native.Nat.{ℕ, suc, ◌+◌, ◌-◌, ◌*◌, ◌^◌, ◌≤◌, ◌<◌}
use mathlib.Core.Path.{◌≡◌}
use mathlib.Core.List.{List}
use native.Mathlib.Nat.{lt_of_lt_of_le, pow-le-pow_right}
use native.Mathlib.Omega.{arith}
use lib.Dec.{lit<}
use lib.ListN.{length, get_or}
use mir.Syntax.{w8}
use mir.Val.{Fits}
use Rattle.order.specs.Little.{little}
use Rattle.order.proofs.Little.{little-lt}
use Rattle.order.proofs.rest.Given as goal

module _ (s : List ℕ) (at i : ℕ) where
  abbrev pub tail : ℕ
  tail = little s i (8 - (i - at))

  pub one_more : at < i → i < at + 8 → get_or s (i - 1) 0 + 256 * tail ≡ little s (i - 1) (8 - (i - 1 - at))
  unfolding little
  one_more l k =
      let e : 8 - (i - 1 - at) ≡ suc (8 - (i - at)) = omega arith in
      let j : i - 1 + 1 ≡ i = omega arith in
      rw (e, j)

  -- seven bytes leave room for one more
  pub seven : ((k : ℕ) → Fits w8 (get_or s k 0)) → at < i → tail < 2 ^ 56
  seven byte l =
      lt_of_lt_of_le (little-lt s byte i (8 - (i - at))) (pow-le-pow_right {n = 256} (lit< tt) {i = 8 - (i - at)} {j = 7} (omega arith))

  pub all : at ≤ i → i ≤ at → tail ≡ little s at 8
  all l k =
      let e : i ≡ at = omega arith in
      let j : 8 - (at - at) ≡ 8 = omega arith in
      rw (e, j)

abbrev pub invariant-loop-i : goal.invariant-loop-i
invariant-loop-i l = (l.at ≤ l.i) × (l.i ≤ length l.s) × (l.number ≡ tail l.s l.at l.i)
