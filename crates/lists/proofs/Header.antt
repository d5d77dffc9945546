-- What is known of a list whose header is not refused? Each check in turn says nothing, so n is within the limits, the
-- count is n, and the bytes are as many as the entries need.
-- Assumes nothing.
use mathlib.Core.Path.{◌≡◌, refl}
use mathlib.Core.Bool.{Bool, true, false, not, ◌||◌, true≢false}
use mathlib.Core.List.{List, [], ◌∷◌}
use Prim.Native.Nat.{ℕ, ◌+◌, ◌*◌, ◌≤◌, ◌<◌}
use native.Mathlib.Omega.{arith}
use lib.Dec.{eqb}
use lib.ListN.{length}
use borrow.Author.Tests.{ltb-false, eqb-true, not-false}
use Rattle.answers.specs.Refusals.{bytes, tiles, count}
use Rattle.answers.specs.Checks.{check, first}
use Rattle.answers.proofs.Checks.{clear, check-clear, check-none, last}
use Rattle.description.specs.Limits.{least_tiles, most_tiles, outside}
use Rattle.order.specs.Little.{little}
use Rattle.lists.specs.Lists.{list_refusal, list_refusal_by}

pub neither : (a b : Bool) → a || b ≡ false → (a ≡ false) × (b ≡ false)
neither true b e = absurd (true≢false e)
neither false b e = (refl, e)

-- the last check has the last word
pub last-check : (t : Bool) (number place : ℕ) → 0 < number → first (check t number place ∷ []) ≡ check t number place
last-check t number place some = last _ (check-none t number place some)

-- ---- what is known where none does
pub record Sound (n width : ℕ) (s : List ℕ) : Type 0 where
  pub some : least_tiles ≤ n
  pub most : n ≤ most_tiles
  pub count : little s 0 8 ≡ n
  pub bytes : length s ≡ 8 + width * n

pub sound : (n width : ℕ) (s : List ℕ) → (list_refusal n width s).number ≡ 0 → Sound n width s
unfolding list_refusal_by
sound n width s h =
    let a = clear _ _ h in
    let b = clear _ _ a.1 in
    let c = clear _ _ b.1 in
    let d = clear _ _ c.1 in
    let limits = neither _ _ (check-clear (outside least_tiles most_tiles n) tiles 0 (omega arith) a.0) in
    record {
      some = ltb-false _ _ limits.0;
      most = ltb-false _ _ limits.1;
      count = eqb-true _ _ (not-false _ (check-clear (not (eqb (little s 0 8) n)) count 0 (omega arith) c.0));
      bytes = eqb-true _ _ (not-false _ (check-clear (not (eqb (length s) (8 + width * n))) bytes (length s) (omega arith) d.0));
    }
