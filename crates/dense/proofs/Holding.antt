-- A query that isn't refused, as the code goes about it: the axes in the array hold what the definitions say of each axis,
-- and stay below the most tiles (`held`); the number found and the buffer are those of the tiles touched (`found-is`,
-- `buffer-is`).
-- Assumes nothing.
use mathlib.Core.Path.{◌≡◌, refl, sym, ap, ◌∙◌}
use mathlib.Core.Logic.{◌⊎◌, inl, inr}
use mathlib.Core.List.{List, [], ◌∷◌, ◌++◌, append-nil}
use Rattle.std.proofs.Common.{Result, Ok, Err}
use Rattle.std.specs.Prelude.{IsErrAnd}
use Prim.Native.Nat.{ℕ, zero, suc, ◌+◌, ◌-◌, ◌*◌, ◌≤◌, ◌<◌}
use native.Mathlib.Nat.{eq-or-lt_of_le, mul_assoc, mul_comm, one-mul, mul-one, mul-le-mul, le-mul_of_pos_right, zero-add}
use native.Mathlib.Omega.{arith}
use lib.ListN.{length, get_or}
use lib.Seq.{sets, take-nil}
use borrow.Author.Tests.{lt-ltb, eq-eqb, ne_eqb}
use Rattle.answers.specs.Runs.{over}
use Rattle.answers.specs.declared.Refused.{Refused}
use Rattle.answers.specs.declared.Refusal.{Refusal}
use Rattle.answers.specs.Told.{said}
use Rattle.answers.specs.Laid.{laid}
use Rattle.answers.proofs.Runs.{Each, over-ext, over-snoc}
use Rattle.answers.proofs.Laid.{sets-whole}
use Rattle.answers.proofs.Filled.{filled_at}
use Rattle.answers.proofs.Checks.{clear}
use Rattle.answers.proofs.Told.{refuses}
use Rattle.description.specs.declared.Description.{Description}
use Rattle.description.specs.Limits.{most_tiles}
use Rattle.description.specs.Description.{sides_of}
use Rattle.description.proofs.Limits.{kept}
use Rattle.boxes.specs.declared.Window.{Window}
use Rattle.boxes.specs.Boxes.{range_in}
use Rattle.dense.specs.declared.Axis.{Axis}
use Rattle.dense.specs.declared.DenseAnswer.{DenseAnswer}
use Rattle.dense.specs.declared.Order.{Order}
use Rattle.dense.specs.declared.Order.TheVariants.{RowMajor, ColumnMajor}
use Rattle.dense.specs.Grid.{product}
use Rattle.dense.specs.Dense.{dimension_of, tiles_in, grid_refusal, dense_refusal, told_found, touched, dense_answer, dense_buffer}
use Rattle.dense.specs.Code.Spans.{capped, Splits, axis_at, no_axis, axes_of, numbers, tiles_at, first_at, span_at, numbers_of, Capped, Held, Filled}
use Rattle.dense.proofs.Accepting.{grid-passed, splits, no_more}
use Rattle.dense.proofs.Told.{told-tiles}
use Rattle.dense.proofs.Rows.{over-shift}
use Rattle.dense.proofs.Capping.{capped_small}
use Rattle.dense.proofs.Filling.{product-some}
use Rattle.dense.proofs.Meaning.{dimension-below, tiles_on, first_on, span_on, runs_on, touched-rows, found-product, dim}

-- ---- products
reversed : (g : ℕ → ℕ) (m : ℕ) → product (λ k. g (m - 1 - k)) 0 m ≡ product g 0 m
unfolding over
reversed g zero = refl
reversed g (suc m) =
    let first : suc m - 1 - 0 ≡ m = omega arith in
    let rest : product (λ k. g (suc m - 1 - k)) 1 m ≡ product g 0 m =
    over-shift ◌*◌ 1 (λ k. g (suc m - 1 - k)) 1 0 m
    ∙ over-ext ◌*◌ 1 (λ k. g (suc m - 1 - (1 + k))) (λ k. g (m - 1 - k)) 0 m (λ k a b. ap g (omega arith))
    ∙ reversed g m in
    rw (first, rest)
    (mul_comm (g m) (product g 0 m) ∙ sym (over-snoc ◌*◌ 1 mul_assoc one-mul mul-one g 0 m ∙ rw zero-add))

-- the number of tiles is the same in either order
pub either_order : (o : Order) (g : ℕ → ℕ) (m : ℕ) → product (λ k. g (dimension_of o m k)) 0 m ≡ product g 0 m
either_order RowMajor g m = refl
either_order ColumnMajor g m = reversed g m

product-mono : (g h : ℕ → ℕ) (k m : ℕ) → Each (λ j. g j ≤ h j) k m → product g k m ≤ product h k m
unfolding over
product-mono g h k zero p = omega arith
product-mono g h k (suc m) p =
    mul-le-mul (p k (omega arith) (omega arith)) (product-mono g h (suc k) m (λ j a b. p j (omega arith) (omega arith)))

product-one : (g : ℕ → ℕ) (j k m : ℕ) → Each (λ i. 0 < g i) k m → k ≤ j → j < k + m → g j ≤ product g k m
unfolding over
product-one g j k zero p a b = absurd (omega arith)
product-one g j k (suc m) p a b = go (eq-or-lt_of_le a) (λ l. product-one g j (suc k) m (λ i c d. p i (omega arith) (omega arith)) l (omega arith))
  where
    rest : 0 < product g (suc k) m
    rest = product-some g (suc k) m (λ i c d. p i (omega arith) (omega arith))

    go : (k ≡ j) ⊎ (k < j) → (suc k ≤ j → g j ≤ product g (suc k) m) → g j ≤ g k * product g (suc k) m
    go (inl e) f = rw (← e) (le-mul_of_pos_right (g k) rest)
    go (inr l) f =
        omega (arith, f l, mul_comm (g k) (product g (suc k) m), le-mul_of_pos_right {m = g k} (product g (suc k) m) (p k (omega arith) (omega arith)))

numbers-same : (t f s t' f' s' : ℕ → ℕ) (k m x : ℕ) → Each (λ j. (t j ≡ t' j) × (f j ≡ f' j) × (s j ≡ s' j)) k m
    → numbers t f s k m x ≡ numbers t' f' s' k m x
unfolding numbers
numbers-same t f s t' f' s' k zero x p = refl
numbers-same t f s t' f' s' k (suc m) x p =
    let here = p k (omega arith) (omega arith) in
    rw (here.0, here.1, here.2)
    (over-ext ◌++◌ [] (numbers t f s (suc k) m) (numbers t' f' s' (suc k) m) (x * t' k + f' k) (s' k)
    (λ y a b. numbers-same t f s t' f' s' (suc k) m y (λ j c d. p j (omega arith) (omega arith))))

laid_none : (xs out : List ℕ) → length xs ≡ 0 → out ≡ laid xs out
laid_none [] out h = rw take-nil
laid_none (x ∷ xs) out h = absurd (omega arith)

-- ---- dimensions
module _ (d : Description) (domain : Window) (extents : List ℕ) (w : Window) (order : Order)
    (passed : (dense_refusal d domain extents w).number ≡ 0) where
  abbrev m : ℕ
  m = sides_of d.dimensions

  abbrev axes : List Axis
  axes = axes_of order m domain.sides extents w.sides

  pub splits-all : Splits domain.sides extents m
  splits-all = splits d domain extents (grid-passed d domain extents w passed)

  pub some-sides : 0 < m
  unfolding grid_refusal
  some-sides = omega (arith, kept d (clear _ _ (grid-passed d domain extents w passed)).0)

  axis-at : (k : ℕ) → k < m → get_or axes k no_axis ≡ axis_at domain.sides extents w.sides (dim d domain extents w order k)
  unfolding axes_of
  axis-at k h =
      filled_at (λ j. axis_at domain.sides extents w.sides (dimension_of order m j)) no_axis m 4 k no_axis (omega arith)
      ∙ rw (lt-ltb k m h)

  abbrev T : ℕ → ℕ
  T = tiles_on d domain extents w order

  abbrev F : ℕ → ℕ
  F = first_on d domain extents w order

  abbrev S : ℕ → ℕ
  S = span_on d domain extents w order

  run : (k : ℕ) → k < m → F k + S k ≤ T k
  run k h = (runs_on d domain extents w order passed k (omega arith) (omega arith)).fits

  some : (k : ℕ) → k < m → 0 < T k
  some k h =
      let i = dimension_of order m k in
      omega (arith, told-tiles (range_in domain.sides i) (get_or extents i 0) i (splits-all i (dimension-below order m k h)))

  pub all-below : product T 0 m ≤ most_tiles
  all-below = rw (either_order order (tiles_in d domain extents) m) (no_more d domain extents (grid-passed d domain extents w passed))

  below : (k : ℕ) → k < m → T k ≤ most_tiles
  below k h = omega (arith, product-one T k 0 m (λ j a b. some j (omega arith)) (omega arith) (omega arith), all-below)

  pub tiles-at : (k : ℕ) → k < m → tiles_at axes k ≡ T k
  tiles-at k h =
      let i = dimension_of order m k in
      ap (λ (a : Axis). a.tiles) (axis-at k h)
      ∙ ap capped (told-tiles (range_in domain.sides i) (get_or extents i 0) i (splits-all i (dimension-below order m k h)))
      ∙ capped_small (T k) (omega (arith, below k h))

  pub first-at : (k : ℕ) → k < m → first_at axes k ≡ F k
  first-at k h = ap (λ (a : Axis). a.first) (axis-at k h)

  pub span-at : (k : ℕ) → k < m → span_at axes k ≡ S k
  span-at k h = ap (λ (a : Axis). a.span) (axis-at k h) ∙ capped_small (S k) (omega (arith, below k h, run k h))

  pub spans-capped : Capped axes m
  spans-capped k h = omega (arith, span-at k h, below k h, run k h)

  pub held : Held axes 0 (m - 1) 0
  held =
      let z : suc (m - 1) ≡ m = omega (arith, some-sides) in
      record {
        few = omega (arith, some-sides);
        below =
            rw z
            (omega (arith, over-ext ◌*◌ 1 (tiles_at axes) T 0 m (λ k a b. tiles-at k (omega arith)), all-below));
        within = λ k a b.
            let h : k < m = omega (arith, some-sides) in
            (omega (arith, tiles-at k h, first-at k h, span-at k h, run k h), omega (arith, tiles-at k h, some k h));
      }

  listed : (n : ℕ) → n ≡ m → numbers_of axes 0 n 0 ≡ touched d domain extents w order
  listed n e =
      rw e (numbers-same (tiles_at axes) (first_at axes) (span_at axes) T F S 0 m 0
      (λ k a b. let h : k < m = omega arith in (tiles-at k h, first-at k h, span-at k h)))
      ∙ sym (touched-rows d domain extents w order passed)

  found-is : capped (product (span_at axes) 0 m) ≡ length (touched d domain extents w order)
  found-is =
      let p : product (span_at axes) 0 m ≡ product S 0 m = over-ext ◌*◌ 1 (span_at axes) S 0 m (λ k a b. span-at k (omega arith)) in
      let q = product-mono S T 0 m (λ k a b. let r = run k (omega arith) in omega arith) in
      capped_small (product (span_at axes) 0 m) (omega (arith, all-below)) ∙ p ∙ sym (found-product d domain extents w order passed)

  -- as the code has them: n sides, and the axes of these
  module _ (n : ℕ) (e : n ≡ m) where
    pub splits-by : Splits domain.sides extents n
    splits-by = rw e splits-all

    module _ (found-axes : List Axis) (f : found-axes ≡ axes_of order n domain.sides extents w.sides) where
      same : found-axes ≡ axes
      same = f ∙ ap (λ (x : ℕ). axes_of order x domain.sides extents w.sides) e

      pub capped-by : Capped found-axes n
      capped-by = rw (same, e) spans-capped

      pub held_by : Held found-axes 0 (n - 1) 0
      held_by = rw (same, e) held

      pub found-by : (x : ℕ) → x ≡ capped (product (span_at found-axes) 0 n) → x ≡ length (touched d domain extents w order)
      found-by x g = g ∙ rw (same, e) found-is

      pub none-by : (x : ℕ) → x ≡ capped (product (span_at found-axes) 0 n) → x ≡ 0
          → (0 ≡ length (touched d domain extents w order)) × ((out : List ℕ) → out ≡ laid (touched d domain extents w order) out)
      none-by x g z = (sym z ∙ found-by x g, λ out. laid_none (touched d domain extents w order) out (sym (found-by x g) ∙ z))

      pub buffer-by : {before after : List ℕ} {next : ℕ} → Filled before 0 (numbers_of found-axes 0 (n - 1 + 1) 0) after next
          → after ≡ laid (touched d domain extents w order) before
      buffer-by {before} {after} {next} g =
          let z : n - 1 + 1 ≡ m = omega (arith, some-sides) in
          let l : numbers_of found-axes 0 (n - 1 + 1) 0 ≡ touched d domain extents w order = rw same (listed (n - 1 + 1) z) in
          g.is []
          ∙ ap (sets before 0) (append-nil (numbers_of found-axes 0 (n - 1 + 1) 0) ∙ l)
          ∙ sets-whole before (touched d domain extents w order)

  -- the answer of one that isn't refused
  pub answered : (found : ℕ) (before after : List ℕ) → found ≡ length (touched d domain extents w order)
      → after ≡ laid (touched d domain extents w order) before
      → (told_found (Ok found) ≡ dense_answer d domain extents w order)
      × (after ≡ dense_buffer d domain extents w order before)
  unfolding told_found dense_answer dense_buffer
  answered found before after p q = rw (eq-eqb (dense_refusal d domain extents w).number 0 passed, p, q) (refl, refl)

-- and of one that is, which the exit of a `?` tells
refused-by : (d : Description) (domain : Window) (extents : List ℕ) (w : Window) (order : Order) (x : Refusal)
    → x ≡ dense_refusal d domain extents w → (x.number ≡ 0 → ⊥) → (out : List ℕ)
    → (◌≡◌ {A = DenseAnswer} (record { number = x.number; place = x.place; found = 0 }) (dense_answer d domain extents w order))
    × (out ≡ dense_buffer d domain extents w order out)
unfolding dense_answer dense_buffer
refused-by d domain extents w order x is some out =
    rw (← is, ne_eqb x.number 0 some) (refl, refl)

pub refused : (d : Description) (domain : Window) (extents : List ℕ) (w : Window) (order : Order) (r : Result ℕ Refused) (e : Refused)
    → IsErrAnd r (λ y. y ≡ e) → said e ≡ dense_refusal d domain extents w → (out : List ℕ)
    → (told_found r ≡ dense_answer d domain extents w order) × (out ≡ dense_buffer d domain extents w order out)
unfolding told_found
refused d domain extents w order (Ok n) e h is out = absurd h
refused d domain extents w order (Err y) e h is out = refused-by d domain extents w order (said y) (rw h is) (refuses y) out
