-- What a run of numbers k, k + 1, .. comes to when something is worked out for each and joined in that order.
-- Assumes nothing.
use Rattle.std.specs.Prelude.{ℕ, zero, suc, ◌+◌, cond, List, [], ◌∷◌, ◌++◌, nat_lt}

-- g k, g (k + 1), .. , m of them, joined in that order
unfoldable pub over : {A : Type 0} → (A → A → A) → A → (ℕ → A) → ℕ → ℕ → A
over op e g k zero = e
over op e g k (suc m) = op (g k) (over op e g (suc k) m)

abbrev pub sum : (ℕ → ℕ) → ℕ → ℕ → ℕ
sum = over ◌+◌ 0

abbrev pub join : {A : Type 0} → (ℕ → List A) → ℕ → ℕ → List A
join = over ◌++◌ []

-- a list of so many places: g of each of the first m, and z in the others
abbrev pub filled : {A : Type 0} → (ℕ → A) → A → ℕ → ℕ → List A
filled g z m size = join (λ i. cond (nat_lt i m) (g i) z ∷ []) 0 size
