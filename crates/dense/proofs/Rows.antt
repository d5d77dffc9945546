-- The tiles touched, row by row: for each place along the slowest axis that meets, in turn, those of the faster axes.
-- Where the places that meet along each axis are one run, so are the tiles (`rows`), and their number is the runs'
-- lengths multiplied (`numbers-length`).
-- Assumes nothing.
use mathlib.Core.Path.{◌≡◌, refl, ap, sym, ◌∙◌}
use mathlib.Core.Bool.{Bool, true, false, ◌&&◌, cond}
use mathlib.Core.List.{List, [], ◌∷◌, ◌++◌, append_assoc, append-nil}
use Prim.Native.Nat.{ℕ, zero, suc, ◌+◌, ◌-◌, ◌*◌, ◌≤◌, ◌<◌}
use native.Mathlib.Nat.{add-zero, zero-add, add-suc, mul_assoc, add-mul}
use native.Mathlib.Omega.{arith}
use lib.ListN.{length}
use Rattle.answers.specs.Runs.{over, join}
use Rattle.answers.proofs.Runs.{Each, over-ext, over_add, over-snoc, over-unit}
use Rattle.answers.proofs.Joined.{join-length, sum_same}
use Rattle.tree.specs.Flat.{passing}
use Rattle.dense.specs.Grid.{product, tile_meets, touched_of}
use Rattle.dense.specs.Code.Spans.{numbers}
use Rattle.dense.proofs.Grid.{quotient, rest}

joined-passing : (test : ℕ → Bool) (k m : ℕ) → join (λ i. cond (test i) (i ∷ []) []) k m ≡ passing test k m
unfolding over passing
joined-passing test k zero = refl
joined-passing test k (suc m) = rw (joined-passing test (suc k) m) (go (test k))
  where
    go : (t : Bool) → cond t (k ∷ []) [] ++ passing test (suc k) m ≡ cond t (k ∷ passing test (suc k) m) (passing test (suc k) m)
    go true = refl
    go false = refl

-- a run that starts further on
pub over-shift : {A : Type 0} (op : A → A → A) (e : A) (g : ℕ → A) (a k m : ℕ) → over op e g (a + k) m ≡ over op e (λ i. g (a + i)) k m
unfolding over
over-shift op e g a k zero = refl
over-shift op e g a k (suc m) = rw (← (add-suc a k), over-shift op e g a (suc k) m)

module _ (g : ℕ → List ℕ) where
  moved : (a m : ℕ) → join g a m ≡ join (λ i. g (a + i)) 0 m
  moved a m = rw (← (over-shift ◌++◌ [] g a 0 m), add-zero)

  -- in parts of f
  groups : (f c : ℕ) → join g 0 (c * f) ≡ join (λ k. join g (k * f) f) 0 c
  unfolding over
  groups f zero =
      let z : 0 * f ≡ 0 = omega arith in
      rw z
  groups f (suc c) =
      let z : suc c * f ≡ c * f + f = omega arith in
      rw (z, over_add ◌++◌ [] append_assoc (λ a. refl) append-nil g 0 (c * f) f, zero-add (c * f), groups f c)
      (sym (over-snoc ◌++◌ [] append_assoc (λ a. refl) append-nil (λ k. join g (k * f) f) 0 c ∙ rw zero-add))

  -- those of one run only
  pub only-run : (meets : ℕ → Bool) (c a n : ℕ) → a + n ≤ c → Each (λ i. meets i ≡ false) 0 a → Each (λ i. meets i ≡ true) a n
      → Each (λ i. meets i ≡ false) (a + n) (c - (a + n)) → join (λ i. cond (meets i) (g i) []) 0 c ≡ join g a n
  only-run meets c a n h before in-run after =
      let z : c ≡ a + (n + (c - (a + n))) = omega arith in
      let f : ℕ → List ℕ = λ i. cond (meets i) (g i) [] in
      let add = over_add ◌++◌ [] append_assoc (λ (x : List ℕ). refl) append-nil f in
      let first : join f 0 a ≡ [] = over-unit ◌++◌ [] append_assoc (λ x. refl) append-nil f 0 a (λ i p q. rw (before i p q)) in
      let mid : join f a n ≡ join g a n = over-ext ◌++◌ [] f g a n (λ i p q. rw (in-run i p q)) in
      let last : join f (a + n) (c - (a + n)) ≡ [] =
      over-unit ◌++◌ [] append_assoc (λ x. refl) append-nil f (a + n) (c - (a + n)) (λ i p q. rw (after i p q)) in
      ap (join f 0) z ∙ add 0 a (n + (c - (a + n))) ∙ rw (first, zero-add, add a n (c - (a + n)), mid, last) (append-nil (join g a n))

-- the places that meet along an axis of c tiles are the n from place a on
pub record Run (meets : ℕ → Bool) (c a n : ℕ) : Type 0 where
  pub fits : a + n ≤ c
  pub before : (i : ℕ) → i < a → meets i ≡ false
  pub within : (i : ℕ) → a ≤ i → i < a + n → meets i ≡ true
  pub after : (i : ℕ) → a + n ≤ i → i < c → meets i ≡ false

module _ (tiles : ℕ → ℕ) (meets : ℕ → ℕ → Bool) (first span : ℕ → ℕ) where
  abbrev one : ℕ → ℕ → ℕ → ℕ → List ℕ
  one k m t s = cond (tile_meets tiles meets k m s) ((t * product tiles k m + s) ∷ []) []

  row : (k m t c s : ℕ) → s < product tiles (suc k) m
      → one k (suc m) t (c * product tiles (suc k) m + s) ≡ cond (meets k c) (one (suc k) m (t * tiles k + c) s) []
  unfolding over tile_meets
  row k m t c s h =
      let f = product tiles (suc k) m in
      let z : t * (tiles k * f) + (c * f + s) ≡ (t * tiles k + c) * f + s = omega (arith, mul_assoc t (tiles k) f, add-mul (t * tiles k) c f) in
      rw (quotient c f s h, rest c f s h, z) (go (meets k c))
    where
      go : (b : Bool) → cond (b && tile_meets tiles meets (suc k) m s) (((t * tiles k + c) * product tiles (suc k) m + s) ∷ []) []
          ≡ cond b (one (suc k) m (t * tiles k + c) s) []
      go true = refl
      go false = refl

  in_row : (b : Bool) (g : ℕ → List ℕ) (k m : ℕ) → join (λ i. cond b (g i) []) k m ≡ cond b (join g k m) []
  in_row true g k m = refl
  in_row false g k m = over-unit ◌++◌ [] append_assoc (λ x. refl) append-nil (λ i. []) k m (λ i p q. refl)

  rows_of : (k m t : ℕ) → Each (λ j. Run (meets j) (tiles j) (first j) (span j)) k m
      → join (one k m t) 0 (product tiles k m) ≡ numbers tiles first span k m t
  unfolding over numbers tile_meets
  rows_of k zero t p =
      let z : t * 1 + 0 ≡ t = omega arith in
      rw z
  rows_of k (suc m) t p =
      let f = product tiles (suc k) m in
      let here = p k (omega arith) (omega arith) in
      let next = numbers tiles first span (suc k) m in
      groups (one k (suc m) t) f (tiles k)
      ∙ over-ext ◌++◌ [] (λ c. join (one k (suc m) t) (c * f) f) (λ c. cond (meets k c) (next (t * tiles k + c)) []) 0 (tiles k)
      (λ c a b.
      moved (one k (suc m) t) (c * f) f
      ∙ over-ext ◌++◌ [] (λ s. one k (suc m) t (c * f + s)) (λ s. cond (meets k c) (one (suc k) m (t * tiles k + c) s) []) 0 f
      (λ s x y. row k m t c s (omega arith))
      ∙ in_row (meets k c) (one (suc k) m (t * tiles k + c)) 0 f
      ∙ rw (rows_of (suc k) m (t * tiles k + c) (λ j x y. p j (omega arith) (omega arith))))
      ∙ only-run (λ c. next (t * tiles k + c)) (meets k) (tiles k) (first k) (span k) here.fits
      (λ i a b. here.before i (omega arith)) (λ i a b. here.within i a b) (λ i a b. here.after i a (omega (arith, here.fits)))
      ∙ sym (over-shift ◌++◌ [] next (t * tiles k) (first k) (span k))

  pub rows : (m : ℕ) → Each (λ j. Run (meets j) (tiles j) (first j) (span j)) 0 m
      → touched_of tiles meets m ≡ numbers tiles first span 0 m 0
  rows m p =
      sym (joined-passing (tile_meets tiles meets 0 m) 0 (product tiles 0 m))
      ∙ over-ext ◌++◌ [] (λ i. cond (tile_meets tiles meets 0 m i) (i ∷ []) []) (one 0 m 0) 0 (product tiles 0 m)
      (λ i a b.
      let z : 0 * product tiles 0 m + i ≡ i = omega arith in
      rw z)
      ∙ rows_of 0 m 0 p

  pub numbers-length : (k m t : ℕ) → length (numbers tiles first span k m t) ≡ product span k m
  unfolding over numbers
  numbers-length k zero t = refl
  numbers-length k (suc m) t =
      join-length (numbers tiles first span (suc k) m) (λ i. product span (suc k) m) (t * tiles k + first k) (span k)
      (λ i a b. numbers-length (suc k) m i)
      ∙ sum_same (product span (suc k) m) (t * tiles k + first k) (span k)
