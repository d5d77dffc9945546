-- Laws of a run of numbers, joined by an operation that has a unit and brackets freely.
-- Assumes nothing.
use Rattle.std.proofs.Common.{◌≡◌, ℕ, zero, suc, ◌+◌, ◌-◌, ◌*◌, ◌<◌, ◌≤◌, min, ◌⊎◌, refl, ap, ◌∙◌, inl, inr, add-zero, add-suc, suc-add, eq-or-lt_of_le, zero-add, add-one, arith}
use native.Mathlib.Decide.{dec_le}
use Rattle.answers.specs.Runs.{over, sum}

-- what holds at each number of a run
abbrev pub Each : (ℕ → Type 0) → ℕ → ℕ → Type 0
Each P k m = (i : ℕ) → k ≤ i → i < k + m → P i

module _ {A : Type 0} (op : A → A → A) (e : A) where
  pub over-ext : (g h : ℕ → A) (k m : ℕ) → Each (λ i. g i ≡ h i) k m → over op e g k m ≡ over op e h k m
  unfolding over
  over-ext g h k zero p = refl
  over-ext g h k (suc m) p =
      rw (p k (omega arith) (omega arith), over-ext g h (suc k) m (λ i a b. p i (omega arith) (omega arith)))

  -- as a loop goes: none are left, or the next and the others; and what is left of n at the start and at i
  pub over_done : (g : ℕ → A) (k m : ℕ) → m ≤ 0 → over op e g k m ≡ e
  unfolding over
  over_done g k zero h = refl
  over_done g k (suc m) h = absurd (omega arith)

  pub over-turn : (g : ℕ → A) (k m : ℕ) → 0 < m → over op e g k m ≡ op (g k) (over op e g (k + 1) (m - 1))
  unfolding over
  over-turn g k zero h = absurd (omega arith)
  over-turn g k (suc m) h =
      let z : suc m - 1 ≡ m = omega arith in
      rw (add-one, z)

  pub over-start : (g : ℕ → A) (n : ℕ) → over op e g 0 n ≡ over op e g 0 (n - 0)
  over-start g n =
      let z : n - 0 ≡ n = omega arith in
      rw z

  pub over-left : (g : ℕ → A) (i n : ℕ) → i < n → over op e g i (n - i) ≡ op (g i) (over op e g (i + 1) (n - (i + 1)))
  over-left g i n h =
      let z : n - (i + 1) ≡ n - i - 1 = omega arith in
      over-turn g i (n - i) (omega arith) ∙ rw z

  -- what is known of the whole is known of each, if it goes over to the parts of a join
  pub over-says : (P : A → Type 0) → ((a b : A) → P (op a b) → P a × P b) → (g : ℕ → A) (k m : ℕ) → P (over op e g k m) → Each (λ i. P (g i)) k m
  unfolding over
  over-says P parts g k zero h i a b = absurd (omega arith)
  over-says P parts g k (suc m) h i a b =
      let both = parts (g k) (over op e g (suc k) m) h in
      go (eq-or-lt_of_le a) both.0 (λ c. over-says P parts g (suc k) m both.1 i c (omega arith))
    where
      go : (k ≡ i) ⊎ (k < i) → P (g k) → (suc k ≤ i → P (g i)) → P (g i)
      go (inl z) x y = rw (← z) x
      go (inr l) x y = y l

-- a map that keeps joins and the unit goes over to each
pub over-map : {A B : Type 0} (op : A → A → A) (e : A) (op' : B → B → B) (e' : B) (f : A → B)
    → f e ≡ e' → ((a b : A) → f (op a b) ≡ op' (f a) (f b)) → (g : ℕ → A) (k m : ℕ) → f (over op e g k m) ≡ over op' e' (λ i. f (g i)) k m
unfolding over
over-map op e op' e' f unit joins g k zero = unit
over-map op e op' e' f unit joins g k (suc m) =
    joins (g k) (over op e g (suc k) m) ∙ ap (op' (f (g k))) (over-map op e op' e' f unit joins g (suc k) m)

module _ {A : Type 0} (op : A → A → A) (e : A)
    (assoc : (a b c : A) → op (op a b) c ≡ op a (op b c)) (left : (a : A) → op e a ≡ a) (right : (a : A) → op a e ≡ a) where
  pub over_add : (g : ℕ → A) (k a b : ℕ) → over op e g k (a + b) ≡ op (over op e g k a) (over op e g (k + a) b)
  unfolding over
  over_add g k zero b = simp (zero-add, add-zero, left)
  over_add g k (suc a) b = simp (suc-add, add-suc, over_add g (suc k) a b, assoc)

  pub over-snoc : (g : ℕ → A) (k a : ℕ) → over op e g k (suc a) ≡ op (over op e g k a) (g (k + a))
  unfolding over
  over-snoc g k zero = simp (add-zero, left, right)
  over-snoc g k (suc a) = simp (over-snoc g (suc k) a, suc-add, add-suc, assoc)

  -- nothing but the unit
  pub over-unit : (g : ℕ → A) (k m : ℕ) → Each (λ i. g i ≡ e) k m → over op e g k m ≡ e
  unfolding over
  over-unit g k zero p = refl
  over-unit g k (suc m) p =
      rw (p k (omega arith) (omega arith), over-unit g (suc k) m (λ i a b. p i (omega arith) (omega arith)), left)

  group-step : (g : ℕ → A) (f c m : ℕ) → Dec (m * f ≤ c)
      → op (over op e g 0 (min (m * f) c)) (over op e g (m * f) (min f (c - m * f))) ≡ over op e g 0 (min (suc m * f) c)
  unfolding over
  group-step g f c m (yes h) =
      let p : min (m * f) c ≡ m * f = omega arith in
      let q : min (suc m * f) c ≡ m * f + min f (c - m * f) = omega arith in
      rw (p, q, over_add g 0 (m * f) (min f (c - m * f)), zero-add)
  group-step g f c m (no h) =
      let p : min (m * f) c ≡ c = omega arith in
      let q : min f (c - m * f) ≡ 0 = omega arith in
      let r : min (suc m * f) c ≡ c = omega arith in
      rw (p, q, r, right)

  -- the first m groups of f out of c make up the first m * f, as far as they exist
  pub over-groups : (g : ℕ → A) (f c m : ℕ)
      → over op e (λ k. over op e g (k * f) (min f (c - k * f))) 0 m ≡ over op e g 0 (min (m * f) c)
  unfolding over
  over-groups g f c zero =
      let p : min (0 * f) c ≡ 0 = omega arith in
      rw p
  over-groups g f c (suc m) =
      over-snoc (λ k. over op e g (k * f) (min f (c - k * f))) 0 m
      ∙ rw (zero-add m, over-groups g f c m, group-step g f c m (dec_le (m * f) c))

-- sums
pub sum-le : (g h : ℕ → ℕ) (k m : ℕ) → Each (λ i. g i ≤ h i) k m → sum g k m ≤ sum h k m
unfolding over
sum-le g h k zero p = omega arith
sum-le g h k (suc m) p =
    omega (arith, p k (omega arith) (omega arith), sum-le g h (suc k) m (λ i a b. p i (omega arith) (omega arith)))

pub sum-plus : (g h : ℕ → ℕ) (k m : ℕ) → sum (λ i. g i + h i) k m ≡ sum g k m + sum h k m
unfolding over
sum-plus g h k zero = omega arith
sum-plus g h k (suc m) = omega (arith, sum-plus g h (suc k) m)

pub sum_ones : (k m : ℕ) → sum (λ i. 1) k m ≡ m
unfolding over
sum_ones k zero = refl
sum_ones k (suc m) = omega (arith, sum_ones (suc k) m)
