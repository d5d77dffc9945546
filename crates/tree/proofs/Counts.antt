-- What are the levels' counts like, and is every box the child of exactly one? A count rounded up is enough for the
-- level below it and less than one box too many; so the children of a level's boxes, in order, are the next level.
-- Assumes nothing.
use mathlib.Core.Path.{◌≡◌, refl, ap, sym, ◌∙◌}
use mathlib.Core.List.{List, [], ◌++◌, append_assoc, append-nil}
use Prim.Native.Nat.{ℕ, zero, suc, ◌+◌, ◌-◌, ◌*◌, ◌/◌, ◌≤◌, ◌<◌, min}
use native.Mathlib.Nat.{add-zero, zero-add, add_assoc, mul-le-mul_right, mul-le-mul_left, div-mul-le_self, lt-div-mul-add, div-eq_of_lt-le}
use native.Mathlib.Numerals.{add-one}
use native.Mathlib.Decide.{dec_le}
use native.Mathlib.Omega.{arith}
use Rattle.answers.specs.Runs.{over, sum, join}
use Rattle.answers.proofs.Runs.{over-ext, over-groups, over-snoc, sum_ones}
use Rattle.tree.specs.Shape.{up, boxes, children}

-- a count rounded up
pub up-enough : (f c : ℕ) → 0 < f → c ≤ up f c * f
unfolding up
up-enough f c h = omega (arith, lt-div-mul-add {a = c + (f - 1)} {b = f} h)

pub up-tight : (f c : ℕ) → 0 < f → up f c * f < c + f
unfolding up
up-tight f c h = omega (arith, div-mul-le_self (c + (f - 1)) f)

some-group : (f c u : ℕ) → 0 < c → c ≤ u * f → 0 < u
some-group f c zero p h = omega arith
some-group f c (suc u) p h = omega arith

pub up_pos : (f c : ℕ) → 0 < f → 0 < c → 0 < up f c
up_pos f c h p = some-group f c (up f c) p (up-enough f c h)

pub up_le : (f c : ℕ) → 0 < f → 0 < c → up f c ≤ c
up_le f c hf hc = go (dec_le (suc c) (up f c))
  where
    go : Dec (suc c ≤ up f c) → up f c ≤ c
    go (yes h) = omega (arith, up-tight f c hf, mul-le-mul_right f h, mul-le-mul_left c hf)
    go (no h) = omega arith

-- a level's count: it has a box, and no more than there are tiles
pub boxes-pos : (f n j : ℕ) → 0 < f → 0 < n → 0 < boxes f n j
unfolding boxes
boxes-pos f n zero hf hn = hn
boxes-pos f n (suc j) hf hn = up_pos f (boxes f n j) hf (boxes-pos f n j hf hn)

pub boxes-le : (f n j : ℕ) → 0 < f → 0 < n → boxes f n j ≤ n
unfolding boxes
boxes-le f n zero hf hn = omega arith
boxes-le f n (suc j) hf hn = omega (arith, up_le f (boxes f n j) hf (boxes-pos f n j hf hn), boxes-le f n j hf hn)

-- as code names the next level
pub next-boxes : (f n j : ℕ) → boxes f n (j + 1) ≡ up f (boxes f n j)
unfolding boxes
next-boxes f n j = rw add-one

-- a tree that has a level's boxes for leaves has the levels above it
pub boxes-up : (f n j : ℕ) → boxes f (up f n) j ≡ boxes f n (suc j)
unfolding boxes
boxes-up f n zero = refl
boxes-up f n (suc j) = ap (up f) (boxes-up f n j)

-- the boxes of the distances 0 to j
abbrev pub boxes_to : ℕ → ℕ → ℕ → ℕ
boxes_to f n j = sum (λ i. boxes f n i) 0 (suc j)

pub to-more : (f n j : ℕ) → boxes_to f n (suc j) ≡ boxes_to f n j + boxes f n (suc j)
to-more f n j = over-snoc ◌+◌ 0 add_assoc zero-add add-zero (λ i. boxes f n i) 0 (suc j) ∙ rw zero-add

-- a child is there, and box k is its parent
pub child-there : (f n j k i : ℕ) → k * f ≤ i → i < k * f + children f n j k → i < boxes f n j
unfolding children
child-there f n j k i a b = omega arith

pub child-parent : (f n j k i : ℕ) → k * f ≤ i → i < k * f + children f n j k → i / f ≡ k
unfolding children
child-parent f n j k i a b = div-eq_of_lt-le {k = k} f {m = i} a (omega arith)

-- the first child of a box is there, and so is its row
pub first-child : (f n j k : ℕ) → 0 < f → k < boxes f n (suc j) → k * f < boxes f n j
unfolding boxes
first-child f n j k hf h = omega (arith, up-tight f (boxes f n j) hf, mul-le-mul_right f h)

pub row-there : (f n j k : ℕ) → k * f ≤ boxes f n j → k * f + children f n j k ≤ boxes f n j
unfolding children
row-there f n j k h = omega arith

-- the children of all boxes at distance j + 1, in order, are the boxes at distance j
module _ {A : Type 0} (op : A → A → A) (e : A)
    (assoc : (a b c : A) → op (op a b) c ≡ op a (op b c)) (left : (a : A) → op e a ≡ a) (right : (a : A) → op a e ≡ a) where
  over-children : (g : ℕ → A) (f n j : ℕ) → 0 < f
      → over op e (λ k. over op e g (k * f) (children f n j k)) 0 (boxes f n (suc j)) ≡ over op e g 0 (boxes f n j)
  unfolding boxes children
  over-children g f n j h =
      let p : min (up f (boxes f n j) * f) (boxes f n j) ≡ boxes f n j = omega (arith, up-enough f (boxes f n j) h) in
      over-groups op e assoc left right g f (boxes f n j) (up f (boxes f n j)) ∙ rw p

pub sum-children : (g : ℕ → ℕ) (f n j : ℕ) → 0 < f
    → sum (λ k. sum g (k * f) (children f n j k)) 0 (boxes f n (suc j)) ≡ sum g 0 (boxes f n j)
sum-children = over-children ◌+◌ 0 add_assoc zero-add add-zero

pub join-children : (g : ℕ → List ℕ) (f n j : ℕ) → 0 < f
    → join (λ k. join g (k * f) (children f n j k)) 0 (boxes f n (suc j)) ≡ join g 0 (boxes f n j)
join-children = over-children ◌++◌ [] append_assoc (λ a. refl) append-nil

pub count-children : (f n j : ℕ) → 0 < f → sum (λ k. children f n j k) 0 (boxes f n (suc j)) ≡ boxes f n j
count-children f n j pos =
    over-ext ◌+◌ 0 (λ k. children f n j k) (λ k. sum (λ i. 1) (k * f) (children f n j k)) 0 (boxes f n (suc j))
    (λ k a b. sym (sum_ones (k * f) (children f n j k)))
    ∙ sum-children (λ i. 1) f n j pos
    ∙ sum_ones 0 (boxes f n j)
