-- Going through checks as code does, past one that says nothing or to a stop at one that refuses (`past`, `stop`,
-- `turn`); what it means that none refused (`clear`); and that the last of a list has the last word, be it a check, a
-- list or a run (`last`).
-- Assumes nothing.
use Rattle.std.proofs.Common.{◌≡◌, ℕ, zero, suc, ◌+◌, ◌-◌, ◌<◌, ◌≤◌, Bool, true, false, cond, eqb, List, [], ◌∷◌, ◌++◌, sym, refl, ap, ◌∙◌, add-zero, add-suc, suc-add, zero-add, arith, eq-eqb, ne_eqb, eqb-true}
use borrow.Author.Tests.{eqb-false}
use Rattle.answers.specs.declared.Refusal.{Refusal}
use Rattle.answers.specs.Refusals.{refusal, none}
use Rattle.answers.specs.Runs.{over}
use Rattle.answers.specs.Checks.{check, otherwise, first, each}
use Rattle.answers.proofs.Runs.{Each, over_done, over-turn, over-left, over-says}

-- two
pub go_on : (r s : Refusal) → r.number ≡ 0 → otherwise r s ≡ s
go_on r s h = rw (eq-eqb r.number 0 h)

pub halt : (r s : Refusal) → (r.number ≡ 0 → ⊥) → otherwise r s ≡ r
halt r s h = rw (ne_eqb r.number 0 h)

pub both-clear : (r s : Refusal) → (otherwise r s).number ≡ 0 → (r.number ≡ 0) × (s.number ≡ 0)
both-clear r s h = go (eqb r.number 0) refl h
  where
    go : (t : Bool) → eqb r.number 0 ≡ t → (cond t s r).number ≡ 0 → (r.number ≡ 0) × (s.number ≡ 0)
    go true e h = (eqb-true r.number 0 e, h)
    go false e h = absurd (eqb-false r.number 0 e h)

pub regroup : (r s t : Refusal) → otherwise (otherwise r s) t ≡ otherwise r (otherwise s t)
regroup r s t = go (eqb r.number 0) refl
  where
    go : (b : Bool) → eqb r.number 0 ≡ b
        → cond (eqb (cond b s r).number 0) t (cond b s r) ≡ cond b (otherwise s t) r
    go true e = refl
    go false e = rw e

-- a list
pub ended : first [] ≡ none
unfolding first
ended = refl

module _ (r : Refusal) (rs : List Refusal) where
  pub past : r.number ≡ 0 → first (r ∷ rs) ≡ first rs
  unfolding first
  past h = go_on r (first rs) h

  pub stop : (r.number ≡ 0 → ⊥) → first (r ∷ rs) ≡ r
  unfolding first
  stop h = halt r (first rs) h

  pub clear : (first (r ∷ rs)).number ≡ 0 → (r.number ≡ 0) × ((first rs).number ≡ 0)
  unfolding first
  clear h = both-clear r (first rs) h

-- one check
module _ (t : Bool) (number place : ℕ) (rs : List Refusal) where
  pub past-check : t ≡ false → first (check t number place ∷ rs) ≡ first rs
  past-check e = past (check t number place) rs (rw e)

  pub stop-check : t ≡ true → 0 < number → first (check t number place ∷ rs) ≡ refusal number place
  stop-check e some = stop (check t number place) rs (rw e (λ h. omega arith)) ∙ rw e

pub check-clear : (t : Bool) (number place : ℕ) → 0 < number → (check t number place).number ≡ 0 → t ≡ false
check-clear true number place some h = absurd (omega arith)
check-clear false number place some h = refl

-- what refuses nothing says `none`, so the last of a list has the last word
both-none : (r s : Refusal) → (s.number ≡ 0 → s ≡ none) → (otherwise r s).number ≡ 0 → otherwise r s ≡ none
both-none r s h e = let both = both-clear r s e in go_on r s both.0 ∙ h both.1

pub check-none : (t : Bool) (number place : ℕ) → 0 < number → (check t number place).number ≡ 0 → check t number place ≡ none
check-none t number place some e = rw (check-clear t number place some e)

pub first-none : (rs : List Refusal) → (first rs).number ≡ 0 → first rs ≡ none
unfolding first
first-none [] e = refl
first-none (r ∷ rs) e = both-none r (first rs) (first-none rs) e

pub each_none : (g : ℕ → Refusal) (k m : ℕ) → (each g k m).number ≡ 0 → each g k m ≡ none
unfolding over
each_none g k zero e = refl
each_none g k (suc m) e = both-none (g k) (each g (suc k) m) (each_none g (suc k) m) e

pub last : (r : Refusal) → (r.number ≡ 0 → r ≡ none) → first (r ∷ []) ≡ r
unfolding first
last r h = go (eqb r.number 0) refl
  where
    go : (t : Bool) → eqb r.number 0 ≡ t → cond t none r ≡ r
    go true e = sym (h (eqb-true r.number 0 e))
    go false e = refl

-- two lists, one after the other
pub first-append : (rs ss : List Refusal) → first (rs ++ ss) ≡ otherwise (first rs) (first ss)
unfolding first
first-append [] ss = refl
first-append (r ∷ rs) ss = ap (otherwise r) (first-append rs ss) ∙ sym (regroup r (first rs) (first ss))

-- as code joins them: to what was said so far, one more
abbrev pub joined : Refusal → List Refusal → Refusal
joined r [] = r
joined r (s ∷ ss) = joined (otherwise r s) ss

pub join-next : {r r' s s' t : Refusal} → t ≡ otherwise r s → r ≡ r' → s ≡ s' → t ≡ otherwise r' s'
join-next e p q = e ∙ rw (p, q)

pub joined-first : (r : Refusal) (ss : List Refusal) (t : Bool) (number place : ℕ) → 0 < number
    → joined r (ss ++ (check t number place ∷ [])) ≡ first (r ∷ ss ++ (check t number place ∷ []))
unfolding first
joined-first r [] t number place some = ap (otherwise r) (sym (last _ (check-none t number place some)))
joined-first r (s ∷ ss) t number place some =
    joined-first (otherwise r s) ss t number place some ∙ regroup r s (first (ss ++ (check t number place ∷ [])))

-- a run
module _ (g : ℕ → Refusal) where
  pub none_left : (k m : ℕ) → m ≤ 0 → each g k m ≡ none
  none_left = over_done otherwise none g

  pub turn : (k m : ℕ) → 0 < m → each g k m ≡ otherwise (g k) (each g (k + 1) (m - 1))
  turn = over-turn otherwise none g

  -- as a loop over n of them goes on at i, past one that says nothing, or stops at one that refuses
  pub past-left : (i n : ℕ) (r : Refusal) → i < n → r ≡ g i → r.number ≡ 0 → each g i (n - i) ≡ each g (i + 1) (n - (i + 1))
  past-left i n r l e h = over-left otherwise none g i n l ∙ rw (← e) (go_on r (each g (i + 1) (n - (i + 1))) h)

  pub stop-left : (i n : ℕ) (r : Refusal) → i < n → r ≡ g i → (r.number ≡ 0 → ⊥) → each g i (n - i) ≡ r
  stop-left i n r l e h = over-left otherwise none g i n l ∙ rw (← e) (halt r (each g (i + 1) (n - (i + 1))) h)

  pub each-clear : (k m : ℕ) → (each g k m).number ≡ 0 → Each (λ i. (g i).number ≡ 0) k m
  each-clear = over-says otherwise none (λ r. r.number ≡ 0) both-clear g

-- nothing refuses where no part does
pub all-clear : (g : ℕ → Refusal) (k m : ℕ) → Each (λ i. g i ≡ none) k m → each g k m ≡ none
unfolding over
all-clear g k zero p = refl
all-clear g k (suc m) p =
    rw (p k (omega arith) (omega arith)) (all-clear g (suc k) m (λ i a b. p i (omega arith) (omega arith)))

-- what holds of nothing said and of each part holds of the whole
pub either : (P : Refusal → Type 0) (r s : Refusal) → P r → P s → P (otherwise r s)
either P r s p q = go (eqb r.number 0)
  where
    go : (t : Bool) → P (cond t s r)
    go true = q
    go false = p

pub each-has : (P : Refusal → Type 0) (g : ℕ → Refusal) (k m : ℕ) → P none → Each (λ i. P (g i)) k m → P (each g k m)
unfolding over
each-has P g k zero n p = n
each-has P g k (suc m) n p =
    either P (g k) (each g (suc k) m) (p k (omega arith) (omega arith))
    (each-has P g (suc k) m n (λ i a b. p i (omega arith) (omega arith)))

-- a run in two parts
pub each-add : (g : ℕ → Refusal) (k a b : ℕ) → each g k (a + b) ≡ otherwise (each g k a) (each g (k + a) b)
unfolding over
each-add g k zero b = simp (zero-add, add-zero)
each-add g k (suc a) b = simp (suc-add, add-suc, each-add g (suc k) a b, regroup)
