-- The laws of the read plan, of tiles that lie one after the other. The ranges are made from right to left: a tile that
-- takes part is put before the ranges of the tiles after it, whose first starts at the next such tile's offset. So each
-- law is an induction over the tiles with one lemma on `before`.
-- Assumes nothing.
use Rattle.std.proofs.Common.{◌≡◌, ℕ, zero, suc, ◌+◌, ◌-◌, ◌<◌, ◌≤◌, Bool, true, false, cond, ◌&&◌, ◌||◌, eqb, ltb, leb, ◌⊎◌, List, [], ◌∷◌, ◌++◌, sym, refl, ap, ◌∙◌, inl, inr, eq-or-lt_of_le, add-one, arith, ltb-false, ltb-true, le-ltb, lt-ltb, le-leb, leb-false, leb-true}
use mathlib.Core.Bool.{or_assoc, or_comm, or_self}
use native.Mathlib.Decide.{dec_lt}
use borrow.Author.Tests.{lt-leb}
use Rattle.answers.specs.Runs.{over, sum}
use Rattle.answers.proofs.Runs.{Each, over-ext}
use Rattle.description.proofs.Tests.{both}
use Rattle.lists.specs.Offsets.{offset_of, extent_of, EndToEnd}
use Rattle.plan.specs.declared.Range.{Range}
use Rattle.plan.specs.Plan.{range, tile_bytes, occurs, solid, before, grouped, planned, read_ranges, total}
use Rattle.plan.specs.Plan.{different}
use Rattle.plan.specs.Laws.{times, All, Apart, gap, gaps, Tiles}
use Rattle.plan.specs.Laws.{Named, Edges, Asked, Bridged, NoFurther, Plan}

-- ---- a byte in a range, and in some range
abbrev In : ℕ → Range → Type 0
In b r = (r.start ≤ b) × (b < r.end)

unfoldable Covered : ℕ → List Range → Type 0
Covered b [] = ⊥
Covered b (r ∷ rs) = In b r ⊎ Covered b rs

-- ---- ranges that lie apart
module _ (g : ℕ) where
  none_below : (b from : ℕ) (rs : List Range) → b < from → Apart g from rs → times b rs ≡ 0
  unfolding Apart times
  none_below b from [] h p = refl
  none_below b from (r ∷ rs) h p =
      rw (lt-leb r.start b (omega (arith, p.0)))
      (omega (arith, none_below b (r.end + g + 1) rs (omega (arith, p.0, p.1)) p.2))

  covered-from : (b from : ℕ) (rs : List Range) → Apart g from rs → Covered b rs → from ≤ b
  unfolding Apart Covered
  covered-from b from [] p c = absurd c
  covered-from b from (r ∷ rs) p (inl h) = omega (arith, p.0, h.0)
  covered-from b from (r ∷ rs) p (inr c) = omega (arith, p.0, p.1, covered-from b (r.end + g + 1) rs p.2 c)

  covered-once : (b from : ℕ) (rs : List Range) → Apart g from rs → Covered b rs → times b rs ≡ 1
  unfolding Apart Covered times
  covered-once b from [] p c = absurd c
  covered-once b from (r ∷ rs) p (inl h) =
      rw (le-leb r.start b h.0, lt-ltb b r.end h.1, none_below b (r.end + g + 1) rs (omega (arith, h.1)) p.2)
  covered-once b from (r ∷ rs) p (inr c) =
      let past = covered-from b (r.end + g + 1) rs p.2 c in
      rw (le-leb r.start b (omega (arith, p.1)), le-ltb b r.end (omega arith))
      (omega (arith, covered-once b (r.end + g + 1) rs p.2 c))

  -- bytes before ranges that start at their end or past it
  before-apart : (from : ℕ) (r : Range) (rs : List Range) → from ≤ r.start → r.start < r.end → Apart g r.end rs
      → Apart g from (before g r rs)
  unfolding Apart before
  before-apart from r [] a b p = (a, b, tt)
  before-apart from r (s ∷ ss) a b p = go (leb (s.start - r.end) g) refl
    where
      go : (t : Bool) → leb (s.start - r.end) g ≡ t → Apart g from (cond t (range r.start s.end ∷ ss) (r ∷ s ∷ ss))
      go true e = (a, omega (arith, p.0, p.1), p.2)
      go false e = (a, b, (omega (arith, leb-false (s.start - r.end) g e), p.1, p.2))

  before_here : (b : ℕ) (r : Range) (rs : List Range) → Apart g r.end rs → In b r → Covered b (before g r rs)
  unfolding Apart before Covered
  before_here b r [] p h = inl h
  before_here b r (s ∷ ss) p h = go (leb (s.start - r.end) g)
    where
      go : (t : Bool) → Covered b (cond t (range r.start s.end ∷ ss) (r ∷ s ∷ ss))
      go true = inl (h.0, omega (arith, p.0, p.1, h.1))
      go false = inl h

  before-there : (b : ℕ) (r : Range) (rs : List Range) → r.start < r.end → Apart g r.end rs → Covered b rs
      → Covered b (before g r rs)
  unfolding Apart before Covered
  before-there b r [] a p c = absurd c
  before-there b r (s ∷ ss) a p c = go (leb (s.start - r.end) g) c
    where
      go : (t : Bool) → In b s ⊎ Covered b ss → Covered b (cond t (range r.start s.end ∷ ss) (r ∷ s ∷ ss))
      go true (inl h) = inl (omega (arith, p.0, h.0), h.1)
      go true (inr c) = inr c
      go false c = inr c

  -- what is read more than the two had is the gap between them
  before-total : (r : Range) (rs : List Range) → r.start < r.end → Apart g r.end rs
      → total (before g r rs) ≡ r.end - r.start + gap g r rs + total rs
  unfolding total before Apart gap
  before-total r [] a p = omega arith
  before-total r (s ∷ ss) a p = go (leb (s.start - r.end) g)
    where
      go : (t : Bool) → total (cond t (range r.start s.end ∷ ss) (r ∷ s ∷ ss))
          ≡ r.end - r.start + cond t (s.start - r.end) 0 + (s.end - s.start + total ss)
      go true = omega (arith, p.0, p.1)
      go false = omega arith

-- ---- the tiles, one by one
module _ (g : ℕ) (named : ℕ → Bool) (tile : ℕ → Range) (n : ℕ) where
  abbrev naming : (k : ℕ) → k < n → solid named tile k ≡ true → Named named tile n
  naming k h e =
      let t = both (named k) (ltb (tile k).start (tile k).end) e in
      record { number = k; below = h; is = t.0; some = ltb-true _ _ t.1 }

  before-edges : (r : Range) (rs : List Range) → Edges named tile n r → All (Edges named tile n) rs
      → All (Edges named tile n) (before g r rs)
  unfolding All before
  before-edges r [] a p = (a, tt)
  before-edges r (s ∷ ss) a p = go (leb (s.start - r.end) g)
    where
      go : (t : Bool) → All (Edges named tile n) (cond t (range r.start s.end ∷ ss) (r ∷ s ∷ ss))
      go true = (record { first = a.first; last = p.0.last; starts = a.starts; ends = p.0.ends }, p.1)
      go false = (a, p)

  grouped-edges : (k m : ℕ) → k + m ≤ n → All (Edges named tile n) (grouped g (solid named tile) tile k m)
  unfolding grouped All
  grouped-edges k zero h = tt
  grouped-edges k (suc m) h = go (solid named tile k) refl (grouped-edges (suc k) m (omega arith))
    where
      rest : List Range
      rest = grouped g (solid named tile) tile (suc k) m

      go : (t : Bool) → solid named tile k ≡ t → All (Edges named tile n) rest
          → All (Edges named tile n) (cond t (before g (tile k) rest) rest)
      go true e q =
          let own = naming k (omega arith) e in
          before-edges (tile k) rest (record { first = own; last = own; starts = refl; ends = refl }) q
      go false e q = q

  before-further : (k : Named named tile n) (rs : List Range) → All (Edges named tile n) rs → All (NoFurther g named tile n) rs
      → All (NoFurther g named tile n) (before g (tile k.number) rs)
  unfolding All before
  before-further k [] p q = ((λ b l u. inl (record { of = k; from = l; to = u })), tt)
  before-further k (s ∷ ss) p q = go (leb (s.start - r.end) g) refl
    where
      r : Range
      r = tile k.number

      through : s.start - r.end ≤ g → (b : ℕ) → r.start ≤ b → b < s.end → Dec (b < r.end) → Dec (b < s.start)
          → Asked named tile n b ⊎ Bridged g named tile n b
      through near b l u (yes a) d = inl (record { of = k; from = l; to = a })
      through near b l u (no a) (yes d) =
          let e = p.0.starts in
          inr (record { past = k; next = p.0.first; from = omega arith; to = rw (← e) d; short = rw (← e) near })
      through near b l u (no a) (no d) = q.0 b (omega arith) u

      go : (t : Bool) → leb (s.start - r.end) g ≡ t
          → All (NoFurther g named tile n) (cond t (range r.start s.end ∷ ss) (r ∷ s ∷ ss))
      go true z = ((λ b l u. through (leb-true (s.start - r.end) g z) b l u (dec_lt b r.end) (dec_lt b s.start)), q.1)
      go false z = ((λ b l u. inl (record { of = k; from = l; to = u })), q)

  grouped-further : (k m : ℕ) → k + m ≤ n → All (NoFurther g named tile n) (grouped g (solid named tile) tile k m)
  unfolding grouped All
  grouped-further k zero h = tt
  grouped-further k (suc m) h = go (solid named tile k) refl (grouped-further (suc k) m (omega arith))
    where
      rest : List Range
      rest = grouped g (solid named tile) tile (suc k) m

      go : (t : Bool) → solid named tile k ≡ t → All (NoFurther g named tile n) rest
          → All (NoFurther g named tile n) (cond t (before g (tile k) rest) rest)
      go true e q = before-further (naming k (omega arith) e) rest (grouped-edges (suc k) m (omega arith)) q
      go false e q = q

  module _ (tiles : Tiles n tile) where
    grouped-apart : (from k m : ℕ) → k + m ≤ n → Each (λ i. from ≤ (tile i).start) k m
        → Apart g from (grouped g (solid named tile) tile k m)
    unfolding grouped Apart
    grouped-apart from k zero h p = tt
    grouped-apart from k (suc m) h p =
        go (solid named tile k) refl
        (grouped-apart (tile k).end (suc k) m (omega arith) (λ i a b. tiles.rising k i (omega arith) (omega arith)))
        (grouped-apart from (suc k) m (omega arith) (λ i a b. p i (omega arith) (omega arith)))
      where
        rest : List Range
        rest = grouped g (solid named tile) tile (suc k) m

        go : (t : Bool) → solid named tile k ≡ t → Apart g (tile k).end rest → Apart g from rest
            → Apart g from (cond t (before g (tile k) rest) rest)
        go true e q q' =
            before-apart g from (tile k) rest (p k (omega arith) (omega arith)) (naming k (omega arith) e).some q
        go false e q q' = q'

    later-apart : (k m : ℕ) → suc k + m ≤ n → Apart g (tile k).end (grouped g (solid named tile) tile (suc k) m)
    later-apart k m h = grouped-apart (tile k).end (suc k) m h (λ i a b. tiles.rising k i (omega arith) (omega arith))

    grouped-covered : (i b k m : ℕ) → k + m ≤ n → k ≤ i → i < k + m → named i ≡ true → In b (tile i)
        → Covered b (grouped g (solid named tile) tile k m)
    unfolding grouped
    grouped-covered i b k zero h l u e q = absurd (omega arith)
    grouped-covered i b k (suc m) h l u e q =
        go (eq-or-lt_of_le l) (λ c. grouped-covered i b (suc k) m (omega arith) c (omega arith) e q)
      where
        rest : List Range
        rest = grouped g (solid named tile) tile (suc k) m

        there : (t : Bool) → solid named tile k ≡ t → Covered b rest → Covered b (cond t (before g (tile k) rest) rest)
        there true z c =
            before-there g b (tile k) rest (naming k (omega arith) z).some (later-apart k m (omega arith)) c
        there false z c = c

        go : (k ≡ i) ⊎ (k < i) → (suc k ≤ i → Covered b rest)
            → Covered b (cond (solid named tile k) (before g (tile k) rest) rest)
        go (inl z) c =
            let is : named k ≡ true = rw z e in
            let byte : In b (tile k) = rw z q in
            rw (is, lt-ltb (tile k).start (tile k).end (omega (arith, byte.0, byte.1)))
            (before_here g b (tile k) rest (later-apart k m (omega arith)) byte)
        go (inr l) c = there (solid named tile k) refl (c l)

    grouped-total : (k m : ℕ) → k + m ≤ n → total (grouped g (solid named tile) tile k m)
        ≡ sum (λ i. cond (named i) ((tile i).end - (tile i).start) 0) k m + gaps g (solid named tile) tile k m
    unfolding grouped total over gaps
    grouped-total k zero h = refl
    grouped-total k (suc m) h =
        go (named k) (ltb (tile k).start (tile k).end) refl (grouped-total (suc k) m (omega arith))
      where
        rest : List Range
        rest = grouped g (solid named tile) tile (suc k) m

        others : ℕ
        others = sum (λ i. cond (named i) ((tile i).end - (tile i).start) 0) (suc k) m

        taken : ℕ
        taken = gaps g (solid named tile) tile (suc k) m

        go : (a t : Bool) → ltb (tile k).start (tile k).end ≡ t → total rest ≡ others + taken
            → total (cond (a && t) (before g (tile k) rest) rest)
            ≡ cond a ((tile k).end - (tile k).start) 0 + others + (cond (a && t) (gap g (tile k) rest) 0 + taken)
        go true true e q =
            before-total g (tile k) rest (ltb-true _ _ e) (later-apart k m (omega arith)) ∙ omega (arith, q)
        go true false e q = omega (arith, q, ltb-false (tile k).start (tile k).end e)
        go false t e q = omega (arith, q)

-- with no gap none is taken in
no_gap : (r : Range) (rs : List Range) → gap 0 r rs ≡ 0
unfolding gap
no_gap r [] = refl
no_gap r (s ∷ ss) = go (leb (s.start - r.end) 0) refl
  where
    go : (t : Bool) → leb (s.start - r.end) 0 ≡ t → cond t (s.start - r.end) 0 ≡ 0
    go true e = omega (arith, leb-true (s.start - r.end) 0 e)
    go false e = refl

no_gaps : (part : ℕ → Bool) (tile : ℕ → Range) (k m : ℕ) → gaps 0 part tile k m ≡ 0
unfolding gaps
no_gaps part tile k zero = refl
no_gaps part tile k (suc m) =
    rw (no_gaps part tile (suc k) m, no_gap (tile k) (grouped 0 part tile (suc k) m)) (go (part k))
  where
    go : (t : Bool) → cond t 0 0 + 0 ≡ 0
    go true = refl
    go false = refl

-- ---- the plan
pub plan : (g : ℕ) (named : ℕ → Bool) (tile : ℕ → Range) (n : ℕ) → Tiles n tile → Plan g named tile n
plan g named tile n tiles =
    let apart = grouped-apart g named tile n tiles 0 0 n (omega arith) (λ i a b. omega arith) in
    let bytes = grouped-total g named tile n tiles 0 n (omega arith) in
    record {
      once = λ i b h e l u.
          covered-once g b 0 _ apart
          (grouped-covered g named tile n tiles i b 0 n (omega arith) (omega arith) (omega arith) e (l, u));
      edges = grouped-edges g named tile n 0 n (omega arith);
      no-further = grouped-further g named tile n 0 n (omega arith);
      apart = apart;
      bytes = bytes;
      exact = λ z. bytes ∙ rw (z, no_gaps (solid named tile) tile 0 n) (omega arith);
    }

-- ---- tiles named the same way
same-grouped : (g : ℕ) (a b : ℕ → Bool) (tile : ℕ → Range) (k m : ℕ) → Each (λ i. a i ≡ b i) k m
    → grouped g (solid a tile) tile k m ≡ grouped g (solid b tile) tile k m
unfolding grouped
same-grouped g a b tile k zero p = refl
same-grouped g a b tile k (suc m) p =
    rw (p k (omega arith) (omega arith), same-grouped g a b tile (suc k) m (λ i l u. p i (omega arith) (omega arith)))

pub same-planned : (g : ℕ) (a b : ℕ → Bool) (tile : ℕ → Range) (n : ℕ) → ((i : ℕ) → i < n → a i ≡ b i)
    → planned g a tile n ≡ planned g b tile n
same-planned g a b tile n p = same-grouped g a b tile 0 n (λ i l u. p i (omega arith))

pub same-different : (n : ℕ) (a b : ℕ → Bool) → ((i : ℕ) → i < n → a i ≡ b i) → different n a ≡ different n b
same-different n a b p = over-ext ◌+◌ 0 _ _ 0 n (λ i l u. ap (λ (t : Bool). cond t 1 0) (p i (omega arith)))

-- ---- only which numbers occur in the run counts, not their order, nor how often
pub record SamePlan (n S : ℕ) (s : List ℕ) (g : ℕ) (a b : List ℕ) : Type 0 where
  pub ranges : read_ranges n S s g a ≡ read_ranges n S s g b
  pub tiles : different n (occurs a) ≡ different n (occurs b)

pub same-plan : (n S : ℕ) (s : List ℕ) (g : ℕ) (a b : List ℕ) → ((i : ℕ) → i < n → occurs a i ≡ occurs b i)
    → SamePlan n S s g a b
same-plan n S s g a b p = record {
  ranges = same-planned g (occurs a) (occurs b) (tile_bytes n S s) n p;
  tiles = same-different n (occurs a) (occurs b) p;
}

occurs-append : (a b : List ℕ) (i : ℕ) → occurs (a ++ b) i ≡ (occurs a i || occurs b i)
unfolding occurs
occurs-append [] b i = refl
occurs-append (x ∷ a) b i = rw (occurs-append a b i) (sym (or_assoc (eqb x i) (occurs a i) (occurs b i)))

pub any_order : (n S : ℕ) (s : List ℕ) (g : ℕ) (a b : List ℕ) → SamePlan n S s g (a ++ b) (b ++ a)
any_order n S s g a b =
    same-plan n S s g (a ++ b) (b ++ a)
    (λ i h. occurs-append a b i ∙ or_comm (occurs a i) (occurs b i) ∙ sym (occurs-append b a i))

pub any-repeat : (n S : ℕ) (s : List ℕ) (g : ℕ) (a : List ℕ) → SamePlan n S s g (a ++ a) a
any-repeat n S s g a = same-plan n S s g (a ++ a) a (λ i h. occurs-append a a i ∙ or_self (occurs a i))

-- ---- of an accepted list of either kind
pub list-tiles : (n S : ℕ) (s : List ℕ) → EndToEnd n S s → Tiles n (tile_bytes n S s)
list-tiles n S s e = record { forward = λ i h. omega arith; rising = rising }
  where
    rising : (i j : ℕ) → i < j → j < n → offset_of n s i + extent_of n S s i ≤ offset_of n s j
    rising i zero l h = absurd (omega arith)
    rising i (suc j) l h = go (eq-or-lt_of_le l) (λ c. rising i j c (omega arith))
      where
        step : offset_of n s j + extent_of n S s j ≡ offset_of n s (suc j)
        step = rw (add-one j) at (e.next j (omega arith))

        go : (suc i ≡ suc j) ⊎ (suc i < suc j) → (i < j → offset_of n s i + extent_of n S s i ≤ offset_of n s j)
            → offset_of n s i + extent_of n S s i ≤ offset_of n s (suc j)
        go (inl z) c =
            let same : i ≡ j = omega arith in
            rw same (omega (arith, step))
        go (inr m) c = omega (arith, step, c (omega arith))

pub read-plan : (n S : ℕ) (s : List ℕ) (g : ℕ) (run : List ℕ) → EndToEnd n S s → Plan g (occurs run) (tile_bytes n S s) n
read-plan n S s g run e = plan g (occurs run) (tile_bytes n S s) n (list-tiles n S s e)
