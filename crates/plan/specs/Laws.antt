-- What is said of a plan: in how many ranges a byte lies, that ranges lie apart, and which gaps are taken in.
-- Assumes nothing.
use Rattle.std.specs.Prelude.{◌≡◌, ℕ, zero, suc, ◌+◌, ◌-◌, ◌<◌, ◌≤◌, Bool, true, cond, ◌&&◌, ◌⊎◌, List, [], ◌∷◌, nat_le, nat_lt}
use Rattle.answers.specs.Runs.{sum}
use Rattle.plan.specs.declared.Range.{Range}
use Rattle.plan.specs.Plan.{solid, grouped, planned, total}

-- in how many of the ranges byte b lies
unfoldable pub times : ℕ → List Range → ℕ
times b [] = 0
times b (r ∷ rs) = cond (nat_le r.start b && nat_lt b r.end) 1 0 + times b rs

-- what holds of each range
unfoldable pub All : (Range → Type 0) → List Range → Type 0
All P [] = Unit {0}
All P (r ∷ rs) = P r × All P rs

-- rising, none empty, the first from a place on, and each later one more than g bytes past the end of the one before
unfoldable pub Apart : ℕ → ℕ → List Range → Type 0
Apart g from [] = Unit {0}
Apart g from (r ∷ rs) = (from ≤ r.start) × (r.start < r.end) × Apart g (r.end + g + 1) rs

-- the bytes between r and the ranges after it, where they are taken in
unfoldable pub gap : ℕ → Range → List Range → ℕ
gap g r [] = 0
gap g r (s ∷ ss) = cond (nat_le (s.start - r.end) g) (s.start - r.end) 0

-- all gaps that are taken in, of the tiles k, k + 1, .. , m of them
unfoldable pub gaps : ℕ → (ℕ → Bool) → (ℕ → Range) → ℕ → ℕ → ℕ
gaps g part tile k zero = 0
gaps g part tile k (suc m) =
    cond (part k) (gap g (tile k) (grouped g part tile (suc k) m)) 0 + gaps g part tile (suc k) m

-- the named tiles' extents together
abbrev pub extents_of : (ℕ → Bool) → (ℕ → Range) → ℕ → ℕ
extents_of named tile n = sum (λ i. cond (named i) ((tile i).end - (tile i).start) 0) 0 n

-- tiles that lie one after the other, as those of an accepted list do
pub record Tiles (n : ℕ) (tile : ℕ → Range) : Type 0 where
  pub forward : (i : ℕ) → i < n → (tile i).start ≤ (tile i).end
  pub rising : (i j : ℕ) → i < j → j < n → (tile i).end ≤ (tile j).start

-- a named tile that has bytes
pub record Named (named : ℕ → Bool) (tile : ℕ → Range) (n : ℕ) : Type 0 where
  pub number : ℕ
  pub below : number < n
  pub is : named number ≡ true
  pub some : (tile number).start < (tile number).end

-- from where a named tile starts to where a named tile ends
pub record Edges (named : ℕ → Bool) (tile : ℕ → Range) (n : ℕ) (r : Range) : Type 0 where
  pub first : Named named tile n
  pub last : Named named tile n
  pub starts : r.start ≡ (tile first.number).start
  pub ends : r.end ≡ (tile last.number).end

-- a byte of a named tile
pub record Asked (named : ℕ → Bool) (tile : ℕ → Range) (n b : ℕ) : Type 0 where
  pub of : Named named tile n
  pub from : (tile of.number).start ≤ b
  pub to : b < (tile of.number).end

-- a byte past the end of one named tile and before the start of another, which is at most g bytes further
pub record Bridged (g : ℕ) (named : ℕ → Bool) (tile : ℕ → Range) (n b : ℕ) : Type 0 where
  pub past : Named named tile n
  pub next : Named named tile n
  pub from : (tile past.number).end ≤ b
  pub to : b < (tile next.number).start
  pub short : (tile next.number).start - (tile past.number).end ≤ g

-- nothing else is read
abbrev pub NoFurther : ℕ → (ℕ → Bool) → (ℕ → Range) → ℕ → Range → Type 0
NoFurther g named tile n r = (b : ℕ) → r.start ≤ b → b < r.end → Asked named tile n b ⊎ Bridged g named tile n b

pub record Plan (g : ℕ) (named : ℕ → Bool) (tile : ℕ → Range) (n : ℕ) : Type 0 where
  pub once : (i b : ℕ) → i < n → named i ≡ true → (tile i).start ≤ b → b < (tile i).end
      → times b (planned g named tile n) ≡ 1
  pub edges : All (Edges named tile n) (planned g named tile n)
  pub no-further : All (NoFurther g named tile n) (planned g named tile n)
  pub apart : Apart g 0 (planned g named tile n)
  pub bytes : total (planned g named tile n) ≡ extents_of named tile n + gaps g (solid named tile) tile 0 n
  pub exact : g ≡ 0 → total (planned g named tile n) ≡ extents_of named tile n
