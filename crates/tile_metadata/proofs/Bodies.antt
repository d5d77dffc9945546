-- What is known of a body whose layout is not refused? n is within the limits, the count is n, and the bytes are those
-- of the values and of a buffer of the size that stands there.
-- Assumes nothing.
use mathlib.Core.Path.{◌≡◌, refl, sym, ap, ◌∙◌}
use mathlib.Core.Bool.{Bool, true, false, not}
use mathlib.Core.List.{List}
use Prim.Native.Nat.{ℕ, ◌+◌, ◌-◌, ◌*◌, ◌^◌, ◌≤◌, ◌<◌}
use native.Mathlib.Nat.{mul-le-mul}
use native.Mathlib.Omega.{arith}
use lib.Dec.{eqb}
use lib.ListN.{length}
use borrow.Author.Tests.{eq-eqb, ne_eqb, eqb-true, eqb-false, not-false}
use Rattle.answers.specs.Refusals.{bytes, tiles, count}
use Rattle.answers.specs.Checks.{check}
use Rattle.answers.specs.declared.Refusal.{Refusal}
use Rattle.answers.specs.declared.Refused.{Refused}
use Rattle.answers.specs.declared.Reason.{Reason}
use Rattle.answers.specs.Told.{told, number_of}
use Rattle.answers.proofs.Told.{ok-clear}
use Rattle.std.specs.Prelude.{Option, Some, None, Result, Ok}
use Rattle.std.specs.Option.{SomeIff, option_eq}
use Rattle.answers.proofs.Checks.{clear, check-clear}
use Rattle.description.specs.Limits.{least_tiles, most_tiles, outside}
use Rattle.description.proofs.Limits.{within}
use Rattle.order.specs.Little.{little}
use Rattle.tile_metadata.specs.Bodies.{buffer_size, layout_refusal, together}

pub record Laid (w n : ℕ) (s : List ℕ) : Type 0 where
  pub some : least_tiles ≤ n
  pub most : n ≤ most_tiles
  pub count : little s 0 8 ≡ n
  pub bytes : length s ≡ 16 + w * n + buffer_size w n s

pub laid : (w n : ℕ) (s : List ℕ) → (layout_refusal w n s).number ≡ 0 → Laid w n s
unfolding layout_refusal
laid w n s h =
    let a = clear _ _ h in
    let b = clear _ _ a.1 in
    let c = clear _ _ b.1 in
    let d = clear _ _ c.1 in
    let limits = within least_tiles most_tiles n (check-clear (outside least_tiles most_tiles n) tiles 0 (omega arith) a.0) in
    record {
      some = limits.0;
      most = limits.1;
      count = eqb-true _ _ (not-false _ (check-clear (not (eqb (little s 0 8) n)) count 0 (omega arith) c.0));
      bytes = eqb-true _ _ (not-false _ (check-clear (not (eqb (length s) (16 + w * n + buffer_size w n s))) bytes (length s) (omega arith) d.0));
    }

-- ---- a sum that may be past 2^64 is compared by a difference that isn't
pub sum-test : (length a b : ℕ) → a ≤ length → eqb (length - a) b ≡ eqb length (a + b)
sum-test length a b h = go (eqb (length - a) b) refl
  where
    go : (t : Bool) → eqb (length - a) b ≡ t → eqb (length - a) b ≡ eqb length (a + b)
    go true e = e ∙ sym (eq-eqb length (a + b) (omega (arith, eqb-true (length - a) b e)))
    go false e = e ∙ sym (ne_eqb length (a + b) (λ z. eqb-false (length - a) b e (omega arith)))

-- where there is one
pub total_told : (o : Option ℕ) (length a b : ℕ) → SomeIff o (a ≤ length) (length - a)
    → option_eq eqb o (Some b) ≡ eqb length (a + b)
total_told (Some x) length a b (some, e) = rw e (sum-test length a b some)
total_told None length a b none = sym (ne_eqb length (a + b) (λ z. none (omega arith)))

-- ---- where the values end is a place that fits
pub most : {r : Result Unit Refused} {u : Unit} {t : Bool} (n : ℕ) → told r ≡ check t (number_of Reason.Tiles) 0 → r ≡ Ok u
    → t ≡ outside least_tiles most_tiles n → n ≤ most_tiles
unfolding number_of
most {t = t} n says ok e = (within least_tiles most_tiles n (sym e ∙ check-clear t tiles 0 (omega arith) (ok-clear says ok))).1

pub end_fits : (w n : ℕ) → w ≤ 2 ^ 32 → n ≤ most_tiles → 16 + w * n < 2 ^ 64
end_fits w n narrow most = omega (arith, mul-le-mul narrow most)

-- ---- of two that are lent together neither is refused where the answer isn't
pub both-accepted : (n : ℕ) (a b : Refusal) → (together n a b).number ≡ 0 → (a.number ≡ 0) × (b.number ≡ 0)
both-accepted n a b h = go (eqb a.number 0) (eqb b.number 0) refl refl
  where
    go : (t u : Bool) → eqb a.number 0 ≡ t → eqb b.number 0 ≡ u → (a.number ≡ 0) × (b.number ≡ 0)
    go true true e f = (eqb-true a.number 0 e, eqb-true b.number 0 f)
    go true false e f = absurd (eqb-false b.number 0 f (simp (e, f) at h))
    go false u e f = absurd (eqb-false a.number 0 e (simp e at h))

-- ---- where the first is refused, the second is not asked
pub first-decides : (n : ℕ) (a b c : Refusal) → (a.number ≡ 0 → ⊥) → together n a b ≡ together n a c
first-decides n a b c h = rw (ne_eqb a.number 0 h)

-- ---- what an equal refusal says of the number
pub cleared : {r s : Refusal} → r ≡ s → r.number ≡ 0 → s.number ≡ 0
cleared e z = sym (ap (λ (x : Refusal). x.number) e) ∙ z
