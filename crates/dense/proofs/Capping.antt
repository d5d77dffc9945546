-- A product that stops at a cap comes to the product, capped: as a loop multiplies, and what is still to come.
-- Assumes nothing.
use mathlib.Core.Path.{◌≡◌, sym, ap, ◌∙◌}
use Prim.Native.Nat.{ℕ, zero, suc, ◌+◌, ◌-◌, ◌*◌, ◌≤◌, ◌<◌, min}
use native.Mathlib.Nat.{mul_comm, mul_assoc, mul-zero, mul-le-mul_right, mul-one}
use native.Mathlib.Decide.{dec_le}
use native.Mathlib.Omega.{arith}
use Rattle.answers.proofs.Runs.{over_done, over-left}
use Rattle.description.specs.Limits.{most_tiles}
use Rattle.dense.specs.Grid.{product}
use Rattle.dense.specs.Code.Spans.{capped}

left : (top x r : ℕ) → min (min x top * r) top ≡ min (x * r) top
left top x zero =
    let a : min x top * 0 ≡ 0 = mul-zero (min x top) in
    let b : x * 0 ≡ 0 = mul-zero x in
    rw (a, b)
left top x (suc r) = go (dec_le x top)
  where
    go : Dec (x ≤ top) → min (min x top * suc r) top ≡ min (x * suc r) top
    go (yes h) =
        let z : min x top ≡ x = omega arith in
        rw z
    go (no h) =
        let z : min x top ≡ top = omega arith in
        let a : top ≤ top * suc r = omega arith in
        let b : top * suc r ≤ x * suc r = mul-le-mul_right {m = top} {n = x} (suc r) (omega arith) in
        rw z (omega arith)

pub capped_left : (x r : ℕ) → capped (capped x * r) ≡ capped (x * r)
capped_left x r = left (most_tiles + 1) x r

pub capped-right : (x r : ℕ) → capped (x * capped r) ≡ capped (x * r)
capped-right x r = rw (mul_comm x (capped r), mul_comm x r) (capped_left r x)

pub capped_small : (x : ℕ) → x ≤ most_tiles + 1 → capped x ≡ x
capped_small x h = omega arith

-- a loop over n of them: at i so much is multiplied, and the others are still to come
pub record Multiplied (g : ℕ → ℕ) (n so i : ℕ) : Type 0 where
  pub within : i ≤ n
  pub small : so ≤ most_tiles + 1
  pub is : capped (so * product g i (n - i)) ≡ capped (product g 0 n)

module _ (g : ℕ → ℕ) (n : ℕ) where
  pub multiplied-more : (so i next a : ℕ) → Multiplied g n so i → i < n → a ≡ capped (g i) → next ≡ capped (so * a) → Multiplied g n next (i + 1)
  multiplied-more so i next a p h e f =
      let rest = product g (i + 1) (n - (i + 1)) in
      record {
        within = omega arith;
        small = omega arith;
        is =
            rw f (capped_left (so * a) rest)
            ∙ ap capped (mul_assoc so a rest)
            ∙ rw e (sym (capped-right so (capped (g i) * rest)) ∙ rw (capped_left (g i) rest) (capped-right so (g i * rest)))
            ∙ ap (λ (x : ℕ). capped (so * x)) (sym (over-left ◌*◌ 1 g i n h))
            ∙ p.is;
      }

  pub multiplied-all : (so i : ℕ) → Multiplied g n so i → n ≤ i → so ≡ capped (product g 0 n)
  multiplied-all so i p h =
      let z : so * 1 ≡ so = mul-one so in
      sym (capped_small so p.small) ∙ ap capped (sym z ∙ ap (λ (x : ℕ). so * x) (sym (over_done ◌*◌ 1 g i (n - i) (omega arith)))) ∙ p.is
