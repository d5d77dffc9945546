-- Nothing here is promised to a caller. What is left of the plan while the tiles are gone through, and what one more
-- tile, and the end, make of it? The ranges that are left, over what stands in the buffer now, are all ranges over what
-- stood there first.
-- Assumes nothing.
use Rattle.std.specs.Prelude.{◌≡◌, ℕ, ◌+◌, ◌-◌, ◌*◌, ◌/◌, ◌%◌, ◌^◌, ◌≤◌, Bool, cond, Option, Some, None, List, [], ◌∷◌, length, take, leb, nat_lt}
use Rattle.std.proofs.lemmas.List.Edits.{sets}
use Rattle.plan.specs.declared.Range.{Range}
use Rattle.plan.specs.declared.Progress.{Progress}
use Rattle.plan.specs.declared.Written.{Written}
use Rattle.plan.specs.Plan.{range, before, planned, words, total, different}

pub record Left (first : List ℕ) (all : List Range) (out : List ℕ) (ranges bytes : ℕ) (rs : List Range) : Type 0 where
  pub counted : ranges + length rs ≡ length all
  pub small : bytes % 2 ^ 64 ≡ bytes
  pub summed : (bytes + total rs) % 2 ^ 64 ≡ total all % 2 ^ 64
  pub stored : sets out (2 * ranges) (words (take (length first / 2 - ranges) rs))
      ≡ sets first 0 (words (take (length first / 2) all))

-- how many ranges are open, and the open range, if one is, before other ranges: where it is closed, and where a tile may
-- still belong to it
abbrev pub opened : Option Range → ℕ
opened None = 0
opened (Some r) = 1

abbrev pub closed : Option Range → List Range → List Range
closed None rs = rs
closed (Some r) rs = r ∷ rs

abbrev pub ahead : ℕ → Option Range → List Range → List Range
ahead g None rs = rs
ahead g (Some r) rs = before g r rs

-- the open range with tile t, where that belongs to it
abbrev pub joined : ℕ → Option Range → Range → Option Range
joined g None t = None
joined g (Some r) t = cond (leb (t.start - r.end) g) (Some (range r.start t.end)) None

-- the open range is written
pub record Closed (p : Progress) (out : List ℕ) (w : Written) (out' : List ℕ) : Type 0 where
  pub more : w.ranges ≡ p.written.ranges + opened p.begun
  pub left : (first : List ℕ) (all rs : List Range)
      → Left first all out p.written.ranges p.written.bytes (closed p.begun rs)
      → Left first all out' w.ranges w.bytes rs

-- tile t is met
pub record Visited (g : ℕ) (t : Range) (p : Progress) (out : List ℕ) (q : Progress) (out' : List ℕ) : Type 0 where
  pub tiles : q.tiles ≡ p.tiles + 1
  pub few : q.written.ranges + opened q.begun ≤ q.tiles
  pub left : (first : List ℕ) (all rs : List Range)
      → Left first all out p.written.ranges p.written.bytes (ahead g p.begun (cond (nat_lt t.start t.end) (before g t rs) rs))
      → Left first all out' q.written.ranges q.written.bytes (ahead g q.begun rs)

-- all tiles are met
pub record Scanned (g : ℕ) (named : ℕ → Bool) (tile : ℕ → Range) (n : ℕ) (out : List ℕ) (p : Progress) (out' : List ℕ)
    : Type 0 where
  pub tiles : p.tiles ≡ different n named
  pub few : p.written.ranges + opened p.begun ≤ n
  pub left : Left out (planned g named tile n) out' p.written.ranges p.written.bytes (closed p.begun [])
