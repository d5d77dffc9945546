-- How many levels are there? The root's level has one box and is the first that has; each level has fewer boxes than
-- the one below it, at most half of a power of two, so 2 ^ h tiles have no more than h + 1 levels.
-- Assumes nothing.
use mathlib.Core.Path.{◌≡◌, refl, sym, ◌∙◌}
use mathlib.Core.Bool.{Bool, true, false, cond}
use Prim.Native.Nat.{ℕ, zero, suc, ◌+◌, ◌-◌, ◌*◌, ◌^◌, ◌≤◌, ◌<◌}
use native.Mathlib.Nat.{mul-le-mul_right, mul-le-mul_left}
use native.Mathlib.Decide.{dec_le}
use native.Mathlib.Omega.{arith}
use lib.Dec.{leb}
use borrow.Author.Tests.{leb-true, leb-false}
use Rattle.tree.specs.Shape.{up, boxes, height_above, height}
use Rattle.tree.proofs.Counts.{up-tight, up_pos, boxes-up}

product : (a b : ℕ) → (2 + a) + (2 + b) ≤ (2 + a) * (2 + b)
product a b = omega arith

sum-le-product : (f c : ℕ) → 1 < f → 1 < c → c + f ≤ c * f
sum-le-product f c hf hc =
    let p : 2 + (c - 2) ≡ c = omega arith in
    let q : 2 + (f - 2) ≡ f = omega arith in
    rw (p, q) at (product (c - 2) (f - 2))

shrinks : (f c : ℕ) → 1 < f → 1 < c → up f c < c
shrinks f c hf hc = go (dec_le c (up f c))
  where
    go : Dec (c ≤ up f c) → up f c < c
    go (yes h) = omega (arith, up-tight f c (omega arith), mul-le-mul_right f h, sum-le-product f c hf hc)
    go (no h) = omega arith

above-one : (steps f c : ℕ) → 1 < f → 0 < c → c ≤ suc steps → boxes f c (height_above steps f c) ≡ 1
unfolding height_above boxes
above-one zero f c hf hc h = omega arith
above-one (suc steps) f c hf hc h =
    go (leb c 1) refl (λ a b. above-one steps f (up f c) hf a b)
  where
    go : (t : Bool) → leb c 1 ≡ t → (0 < up f c → up f c ≤ suc steps → boxes f (up f c) (height_above steps f (up f c)) ≡ 1)
        → boxes f c (cond t 0 (suc (height_above steps f (up f c)))) ≡ 1
    go true e ih = omega (arith, leb-true c 1 e)
    go false e ih =
        let two : 1 < c = leb-false c 1 e in
        sym (boxes-up f c (height_above steps f (up f c)))
        ∙ ih (up_pos f c (omega arith) hc) (omega (arith, shrinks f c hf two))

above-least : (steps f c : ℕ) (j : ℕ) → j < height_above steps f c → 1 < boxes f c j
unfolding height_above boxes
above-least zero f c j h = omega arith
above-least (suc steps) f c j h = go (leb c 1) refl j h (λ i a. above-least steps f (up f c) i a)
  where
    go : (t : Bool) → leb c 1 ≡ t → (j : ℕ) → j < cond t 0 (suc (height_above steps f (up f c)))
        → ((i : ℕ) → i < height_above steps f (up f c) → 1 < boxes f (up f c) i) → 1 < boxes f c j
    go true e j h ih = omega arith
    go false e zero h ih = leb-false c 1 e
    go false e (suc j) h ih = rw (← (boxes-up f c j)) (ih j (omega arith))

-- the root's level has one box, and it is the first that has
pub height-one : (f n : ℕ) → 1 < f → 0 < n → boxes f n (height f n) ≡ 1
unfolding height
height-one f n hf hn = above-one n f n hf hn (omega arith)

pub height-least : (f n j : ℕ) → j < height f n → 1 < boxes f n j
unfolding height
height-least f n j h = above-least n f n j h

-- so a level with a single box is it
pub at-root : (f n j : ℕ) → j ≤ height f n → boxes f n j ≤ 1 → j ≡ height f n
at-root f n j h a = go (dec_le (height f n) j)
  where
    go : Dec (height f n ≤ j) → j ≡ height f n
    go (yes b) = omega arith
    go (no b) = absurd (omega (arith, height-least f n j (omega arith)))

-- one level less, from the level above the leaves on
pub height-up : (f n : ℕ) → 1 < f → 1 < n → height f n ≡ suc (height f (up f n))
unfolding boxes
height-up f n hf hn = go (height f n) refl (dec_le (suc (height f (up f n))) (height f n))
  where
    top : boxes f n (suc (height f (up f n))) ≡ 1
    top = sym (boxes-up f n (height f (up f n))) ∙ height-one f (up f n) hf (up_pos f n (omega arith) (omega arith))

    go : (h : ℕ) → height f n ≡ h → Dec (suc (height f (up f n)) ≤ height f n) → height f n ≡ suc (height f (up f n))
    go h e (yes a) = sym (at-root f n (suc (height f (up f n))) a (omega (arith, top)))
    go zero e (no a) = absurd (omega (arith, rw e at (height-one f n hf (omega arith))))
    go (suc h) e (no a) =
        let one : boxes f (up f n) h ≡ 1 = boxes-up f n h ∙ rw e at (height-one f n hf (omega arith)) in
        absurd (omega (arith, height-least f (up f n) h (omega arith)))

-- the number of levels
halves : (f c h : ℕ) → 1 < f → c ≤ 2 ^ suc h → up f c ≤ 2 ^ h
halves f c h hf a = go (dec_le (suc (2 ^ h)) (up f c))
  where
    go : Dec (suc (2 ^ h) ≤ up f c) → up f c ≤ 2 ^ h
    go (yes b) = omega (arith, up-tight f c (omega arith), mul-le-mul_right f b, mul-le-mul_left (2 ^ h) hf)
    go (no b) = omega arith

above-le : (steps f c h : ℕ) → 1 < f → c ≤ 2 ^ h → height_above steps f c ≤ h
unfolding height_above
above-le zero f c h hf a = omega arith
above-le (suc steps) f c h hf a = go (leb c 1) refl h a (λ i b. above-le steps f (up f c) i hf b)
  where
    go : (t : Bool) → leb c 1 ≡ t → (h : ℕ) → c ≤ 2 ^ h → ((i : ℕ) → up f c ≤ 2 ^ i → height_above steps f (up f c) ≤ i)
        → cond t 0 (suc (height_above steps f (up f c))) ≤ h
    go true e h a ih = omega arith
    go false e zero a ih = omega (arith, leb-false c 1 e)
    go false e (suc h) a ih = omega (arith, ih h (halves f c h hf a))

pub height-le : (f n h : ℕ) → 1 < f → n ≤ 2 ^ h → height f n ≤ h
unfolding height
height-le f n h hf a = above-le n f n h hf a
