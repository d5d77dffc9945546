-- How the loop over the marked tiles goes on: what is left of the plan at tile i, with the range that is open there.
-- The definition goes from right to left and the loop from left to right; `neighbours` turns the one into the other.
-- Assumes nothing.
use Rattle.std.proofs.Common.{◌≡◌, ℕ, zero, suc, ◌+◌, ◌-◌, ◌*◌, ◌/◌, ◌%◌, ◌^◌, ◌<◌, ◌≤◌, Bool, true, false, cond, ltb, leb, Option, Some, None, ◌&&◌, List, [], ◌∷◌, length, get_or, take, set, sym, refl, ap, ◌∙◌, add-zero, add-one, arith, w8, Fits, le-ltb, lt-ltb}
use native.Mathlib.Nat.{zero-div}
use native.Mathlib.Decide.{dec_lt}
use lib.Count.{count_trailing_zeros}
use lib.Seq.{sets, length-sets, take-nil}
use Rattle.answers.specs.Laid.{laid}
use Rattle.answers.specs.Runs.{over, sum}
use Rattle.answers.proofs.Laid.{sets-whole}
use Rattle.answers.proofs.Runs.{over_done, over-left}
use Rattle.order.specs.Little.{little}
use Rattle.order.proofs.Little.{little-lt}
use Rattle.lists.specs.Offsets.{offset_of, extent_of}
use Rattle.lists.specs.Lists.{entry}
use Rattle.plan.specs.declared.Range.{Range}
use Rattle.plan.specs.declared.Progress.{Progress}
use Rattle.plan.specs.declared.Written.{Written}
use Rattle.plan.specs.Plan.{range, solid, before, grouped, words, total, planned, different}
use Rattle.plan.specs.Code.Marks.{digit, marked, Skipped}
use Rattle.plan.specs.Code.Progress.{Left, opened, closed, ahead, joined, Closed, Visited, Scanned}
use Rattle.plan.proofs.Words.{Word, word-says, none_left, found_before, found-marked}
use Rattle.plan.proofs.Words.{skipped-few, skipped-none, next_word}

-- ---- a tile's end fits
pub tile-fits : (n S : ℕ) (s : List ℕ) → ((i : ℕ) → Fits w8 (get_or s i 0)) → S < 2 ^ 64 → (i : ℕ)
    → offset_of n s i + extent_of n S s i < 2 ^ 64
unfolding offset_of extent_of
tile-fits n S s byte small i = go (ltb i n) (ltb (i + 1) n)
  where
    fits : (j : ℕ) → entry s j < 2 ^ 64
    fits j = little-lt s byte (8 + 8 * j) 8

    go : (a b : Bool) → cond a (entry s i) 0 + cond a (cond b (entry s (i + 1)) S - entry s i) 0 < 2 ^ 64
    go true true = omega (arith, fits i, fits (i + 1))
    go true false = omega (arith, fits i)
    go false b = omega arith

-- ---- a range as it is put, or isn't
take-first : (r : Range) (rs : List Range) (room ranges : ℕ) → ranges < room
    → take (room - ranges) (r ∷ rs) ≡ r ∷ take (room - (ranges + 1)) rs
take-first r rs room ranges h =
    let z : room - ranges ≡ suc (room - (ranges + 1)) = omega arith in
    rw z

module _ (out : List ℕ) (ranges : ℕ) (r : Range) where
  pub put_some : ranges < length out / 2
      → set (set out (2 * ranges) r.start) (2 * ranges + 1) (r.end - r.start)
      ≡ sets out (2 * ranges) (words (take (length out / 2 - ranges) (r ∷ [])))
  unfolding words
  put_some h =
      rw (take-first r [] (length out / 2) ranges h, take-nil (length out / 2 - (ranges + 1)), add-one)

  pub put-none : length out / 2 ≤ ranges → out ≡ sets out (2 * ranges) (words (take (length out / 2 - ranges) (r ∷ [])))
  unfolding words
  put-none h =
      let z : length out / 2 - ranges ≡ 0 = omega arith in
      rw z

-- ---- what is left after a range is written
pub same_size : {first out : List ℕ} {all rs : List Range} {ranges bytes : ℕ} → Left first all out ranges bytes rs
    → length out ≡ length first
same_size {first} {out} {all} {rs} {ranges} l =
    sym (length-sets out (2 * ranges) (words (take (length first / 2 - ranges) rs)))
    ∙ ap length l.stored
    ∙ length-sets first 0 (words (take (length first / 2) all))

module _ {first out : List ℕ} {all rs : List Range} {ranges bytes : ℕ} (r : Range)
    (l : Left first all out ranges bytes (r ∷ rs)) where
  stored_next : Dec (ranges < length first / 2)
      → sets (sets out (2 * ranges) (words (take (length first / 2 - ranges) (r ∷ [])))) (2 * (ranges + 1))
      (words (take (length first / 2 - (ranges + 1)) rs))
      ≡ sets first 0 (words (take (length first / 2) all))
  unfolding words
  stored_next (yes h) =
      let next : 2 * (ranges + 1) ≡ suc (suc (2 * ranges)) = omega arith in
      let room = length first / 2 in
      rw (take-first r [] room ranges h, take-nil (room - (ranges + 1)), next) (rw (take-first r rs room ranges h) at l.stored)
  stored_next (no h) =
      let z : length first / 2 - ranges ≡ 0 = omega arith in
      let next : length first / 2 - (ranges + 1) ≡ 0 = omega arith in
      rw (z, next) (rw z at l.stored)

  pub left-put : (out' : List ℕ) → out' ≡ sets out (2 * ranges) (words (take (length out / 2 - ranges) (r ∷ [])))
      → Left first all out' (ranges + 1) ((bytes + (r.end - r.start)) % 2 ^ 64) rs
  unfolding total
  left-put out' e = record {
    counted = omega (arith, l.counted);
    small = omega arith;
    summed = omega (arith, l.summed);
    stored = rw (e, same_size l) (stored_next (dec_lt ranges (length first / 2)));
  }

pub close-some : (p : Progress) (r : Range) (out : List ℕ) → p.begun ≡ Some r → (out' : List ℕ)
    → out' ≡ sets out (2 * p.written.ranges) (words (take (length out / 2 - p.written.ranges) (r ∷ [])))
    → (bytes : ℕ) → bytes ≡ (p.written.bytes + (r.end - r.start)) % 2 ^ 64
    → Closed p out (record { ranges = p.written.ranges + 1; bytes = bytes }) out'
close-some p r out b out' e bytes sums = record {
  more = rw b;
  left = λ first all rs l. rw sums (left-put r (rw b at l) out' e);
}

pub close-none : (p : Progress) (out : List ℕ) → p.begun ≡ None → Closed p out p.written out
close-none p out b = record { more = rw b (omega arith); left = λ first all rs l. rw b at l }

some-is : {r s : Range} → Some r ≡ Some s → r ≡ s
some-is e = grind arith

-- ---- the rule for two neighbours, as the loop meets them: the second belongs to the first one's range, or opens the next
neighbours : (g : ℕ) (r t : Range) (rs : List Range) → before g r (before g t rs)
    ≡ cond (leb (t.start - r.end) g) (before g (range r.start t.end) rs) (r ∷ before g t rs)
unfolding before
neighbours g r t [] = refl
neighbours g r t (s ∷ ss) = go (leb (s.start - t.end) g)
  where
    go : (b : Bool) → before g r (cond b (range t.start s.end ∷ ss) (t ∷ s ∷ ss))
        ≡ cond (leb (t.start - r.end) g) (cond b (range r.start s.end ∷ ss) (range r.start t.end ∷ s ∷ ss))
        (r ∷ cond b (range t.start s.end ∷ ss) (t ∷ s ∷ ss))
    go true = refl
    go false = refl

near : (g : ℕ) (o : Option Range) (r t : Range) (rs : List Range) → joined g o t ≡ Some r
    → ahead g o (before g t rs) ≡ before g r rs
near g None r t rs e = grind arith
near g (Some s) r t rs e = go (leb (t.start - s.end) g) refl e
  where
    go : (b : Bool) → leb (t.start - s.end) g ≡ b → cond b (Some (range s.start t.end)) None ≡ Some r
        → before g s (before g t rs) ≡ before g r rs
    go true b e = neighbours g s t rs ∙ rw b (ap (λ x. before g x rs) (some-is e))
    go false b e = grind arith

far : (g : ℕ) (o : Option Range) (t : Range) (rs : List Range) → joined g o t ≡ None
    → ahead g o (before g t rs) ≡ closed o (before g t rs)
far g None t rs e = refl
far g (Some s) t rs e = go (leb (t.start - s.end) g) refl e
  where
    go : (b : Bool) → leb (t.start - s.end) g ≡ b → cond {A = Option Range} b (Some (range s.start t.end)) None ≡ None
        → before g s (before g t rs) ≡ s ∷ before g t rs
    go true b e = grind arith
    go false b e = neighbours g s t rs ∙ rw b

ahead-none : (g : ℕ) (o : Option Range) → ahead g o [] ≡ closed o []
unfolding before
ahead-none g None = refl
ahead-none g (Some r) = refl

-- ---- tile t is met
module _ (g : ℕ) (t : Range) (p : Progress) (out : List ℕ) (few : p.written.ranges + opened p.begun ≤ p.tiles) where
  pub visit-none : t.end ≤ t.start → Visited g t p out (record { tiles = p.tiles + 1; written = p.written; begun = p.begun }) out
  visit-none h = record {
    tiles = refl;
    few = omega (arith, few);
    left = λ first all rs l. rw (le-ltb t.start t.end h) at l;
  }

  pub visit-near : t.start < t.end → (r : Range) → joined g p.begun t ≡ Some r
      → Visited g t p out (record { tiles = p.tiles + 1; written = p.written; begun = Some r }) out
  visit-near h r e = record {
    tiles = refl;
    few = omega (arith, few);
    left = λ first all rs l. rw (near g p.begun r t rs e) at (rw (lt-ltb t.start t.end h) at l);
  }

  pub visit-far : t.start < t.end → joined g p.begun t ≡ None → (w : Written) (out' : List ℕ) → Closed p out w out'
      → Visited g t p out (record { tiles = p.tiles + 1; written = w; begun = Some t }) out'
  visit-far h e w out' c = record {
    tiles = refl;
    few = omega (arith, few, c.more);
    left = λ first all rs l.
        c.left first all (before g t rs) (rw (far g p.begun t rs e) at (rw (lt-ltb t.start t.end h) at l));
  }

-- ---- what is left of the tiles at i
module _ (g : ℕ) (part : ℕ → Bool) (tile : ℕ → Range) where
  turn : (k m : ℕ) → 0 < m → grouped g part tile k m
      ≡ cond (part k) (before g (tile k) (grouped g part tile (k + 1) (m - 1))) (grouped g part tile (k + 1) (m - 1))
  unfolding grouped
  turn k zero h = absurd (omega arith)
  turn k (suc m) h =
      let z : suc m - 1 ≡ m = omega arith in
      rw (add-one, z)

  left-none : (i n : ℕ) → n ≤ i → grouped g part tile i (n - i) ≡ []
  unfolding grouped
  left-none i n h =
      let z : n - i ≡ 0 = omega arith in
      rw z

  left-turn : (i n : ℕ) → i < n → grouped g part tile i (n - i)
      ≡ cond (part i) (before g (tile i) (grouped g part tile (i + 1) (n - (i + 1)))) (grouped g part tile (i + 1) (n - (i + 1)))
  left-turn i n h =
      let z : n - (i + 1) ≡ n - i - 1 = omega arith in
      turn i (n - i) (omega arith) ∙ rw z

-- what stays the same from each number to the next
steady : {A : Type 0} (F : ℕ → A) (d i : ℕ) → ((j : ℕ) → i ≤ j → j < i + d → F j ≡ F (j + 1)) → F i ≡ F (i + d)
steady F zero i h = ap F (sym (add-zero i))
steady F (suc d) i h =
    let z : i + 1 + d ≡ i + suc d = omega arith in
    h i (omega arith) (omega arith)
    ∙ steady F d (i + 1) (λ j a b. h j (omega arith) (omega arith))
    ∙ ap F z

few-different : (named : ℕ → Bool) (k m : ℕ) → sum (λ i. cond (named i) 1 0) k m ≤ m
unfolding over
few-different named k zero = omega arith
few-different named k (suc m) = go (named k) (few-different named (suc k) m)
  where
    go : (t : Bool) → sum (λ i. cond (named i) 1 0) (suc k) m ≤ m → cond t 1 0 + sum (λ i. cond (named i) 1 0) (suc k) m ≤ suc m
    go true h = omega arith
    go false h = omega arith

-- ---- the loop at tile i
pub record Reached (g n : ℕ) (named : ℕ → Bool) (tile : ℕ → Range) (first out : List ℕ) (p : Progress) (i : ℕ) : Type 0 where
  pub few : p.written.ranges + opened p.begun ≤ p.tiles
  pub counted : p.tiles + sum (λ i. cond (named i) 1 0) i (n - i) ≡ different n named
  pub left : Left first (planned g named tile n) out p.written.ranges p.written.bytes (ahead g p.begun (grouped g (solid named tile) tile i (n - i)))

abbrev nothing : Progress
nothing = record { tiles = 0; written = record { ranges = 0; bytes = 0 }; begun = None }

pub reached-start : (g n : ℕ) (named : ℕ → Bool) (tile : ℕ → Range) (first : List ℕ)
    → Reached g n named tile first first nothing 0
reached-start g n named tile first =
    let z : n - 0 ≡ n = omega arith in
    let room : length first / 2 - 0 ≡ length first / 2 = omega arith in
    record {
      few = omega arith;
      counted = rw z (omega arith);
      left = record { counted = rw z (omega arith); small = omega arith; summed = rw z (omega arith); stored = rw (z, room) };
    }

module _ {g n : ℕ} {named : ℕ → Bool} {tile : ℕ → Range} {first out : List ℕ} {p : Progress} {i : ℕ}
    (r : Reached g n named tile first out p i) where
  pub tiles-within : p.tiles ≤ n
  tiles-within = omega (arith, r.counted, few-different named 0 n)

  pub tiles-before : i < n → named i ≡ true → p.tiles + 1 ≤ n
  tiles-before h e =
      let s = over-left ◌+◌ 0 (λ i. cond (named i) 1 0) i n h in
      omega (arith, r.counted, rw e at s, few-different named 0 n)

  -- tiles without a mark are passed over
  pub pass : (k : ℕ) → i ≤ k → ((j : ℕ) → i ≤ j → j < k → named j ≡ false) → Reached g n named tile first out p k
  pass k h none =
      let d = k - i in
      let z : i + d ≡ k = omega arith in
      let ranges : grouped g (solid named tile) tile i (n - i) ≡ grouped g (solid named tile) tile k (n - k)
      = steady (λ j. grouped g (solid named tile) tile j (n - j)) d i (λ j a b. same j (none j a (omega arith)) (dec_lt j n))
      ∙ ap (λ (j : ℕ). grouped g (solid named tile) tile j (n - j)) z in
      let count : sum (λ i. cond (named i) 1 0) i (n - i) ≡ sum (λ i. cond (named i) 1 0) k (n - k)
      = steady (λ j. sum (λ i. cond (named i) 1 0) j (n - j)) d i (λ j a b. as_many j (none j a (omega arith)) (dec_lt j n))
      ∙ ap (λ (j : ℕ). sum (λ i. cond (named i) 1 0) j (n - j)) z in
      record { few = r.few; counted = rw count at r.counted; left = rw ranges at r.left }
    where
      same : (j : ℕ) → named j ≡ false → Dec (j < n)
          → grouped g (solid named tile) tile j (n - j) ≡ grouped g (solid named tile) tile (j + 1) (n - (j + 1))
      same j e (yes l) = left-turn g (solid named tile) tile j n l ∙ rw e
      same j e (no l) =
          left-none g (solid named tile) tile j n (omega arith)
          ∙ sym (left-none g (solid named tile) tile (j + 1) n (omega arith))

      as_many : (j : ℕ) → named j ≡ false → Dec (j < n)
          → sum (λ i. cond (named i) 1 0) j (n - j) ≡ sum (λ i. cond (named i) 1 0) (j + 1) (n - (j + 1))
      as_many j e (yes l) = over-left ◌+◌ 0 (λ i. cond (named i) 1 0) j n l ∙ rw e (omega arith)
      as_many j e (no l) =
          over_done ◌+◌ 0 (λ i. cond (named i) 1 0) j (n - j) (omega arith)
          ∙ sym (over_done ◌+◌ 0 (λ i. cond (named i) 1 0) (j + 1) (n - (j + 1)) (omega arith))

  -- and one with a mark is met
  pub meet : i < n → named i ≡ true → (t : Range) → t ≡ tile i → (q : Progress) (out' : List ℕ) → Visited g t p out q out'
      → Reached g n named tile first out' q (i + 1)
  meet h e t is q out' v =
      let s = over-left ◌+◌ 0 (λ i. cond (named i) 1 0) i n h in
      let rest = grouped g (solid named tile) tile (i + 1) (n - (i + 1)) in
      let next : grouped g (solid named tile) tile i (n - i) ≡ cond (ltb t.start t.end) (before g t rest) rest
      = left-turn g (solid named tile) tile i n h ∙ rw (e, is) in
      record {
        few = v.few;
        counted = omega (arith, r.counted, rw e at s, v.tiles);
        left = v.left first (planned g named tile n) rest (rw next at r.left);
      }

  -- no tile is left
  pub done : n ≤ i → Scanned g named tile n first p out
  done h = record {
    tiles = omega (arith, r.counted, over_done ◌+◌ 0 (λ i. cond (named i) 1 0) i (n - i) (omega arith));
    few = omega (arith, r.few, tiles-within);
    left = rw (left-none g (solid named tile) tile i n h, ahead-none g p.begun) at r.left;
  }

-- ---- the loop with the marks from tile i on in `word`, and the next eight bytes at `at`
pub record Turn (g n : ℕ) (marks : List ℕ) (tile : ℕ → Range) (first out : List ℕ) (p : Progress) (bytes i at word : ℕ) : Type 0 where
  pub enough : bytes ≡ (n + 7) / 8
  pub aligned : at % 8 ≡ 0
  pub within : at ≤ bytes + 7
  pub behind : i ≤ 8 * at
  pub bits : Word marks i (8 * at) word
  pub reached : Reached g n (marked marks) tile first out p i

pub turn-start : (g n : ℕ) (marks : List ℕ) (tile : ℕ → Range) (first : List ℕ) (bytes : ℕ) → bytes ≡ (n + 7) / 8
    → Turn g n marks tile first first nothing bytes 0 0 0
turn-start g n marks tile first bytes e = record {
  enough = e;
  aligned = refl;
  within = omega arith;
  behind = omega arith;
  bits = record { small = omega arith; says = λ k. rw (zero-div, le-ltb (0 + k) 0 (omega arith)) };
  reached = reached-start g n (marked marks) tile first;
}

module _ {g n : ℕ} {marks : List ℕ} {tile : ℕ → Range} {first out : List ℕ} {p : Progress} {bytes i at word : ℕ}
    (t : Turn g n marks tile first out p bytes i at word) where
  -- the marks up to a later place are the same, where there are none in between
  pub skip-turn : (next : ℕ) → Skipped marks bytes at next → Turn g n marks tile first out p bytes i next word
  skip-turn next s = record {
    enough = t.enough;
    aligned = omega (arith, t.aligned, s.aligned);
    within = s.within;
    behind = omega (arith, t.behind, s.after);
    bits = record { small = t.bits.small; says = λ k. says k (dec_lt (i + k) (8 * at)) (dec_lt (i + k) (8 * next)) };
    reached = t.reached;
  }
    where
      says : (k : ℕ) → Dec (i + k < 8 * at) → Dec (i + k < 8 * next)
          → digit word k ≡ (ltb (i + k) (8 * next) && marked marks (i + k))
      says k (yes a) b =
          t.bits.says k
          ∙ rw (lt-ltb (i + k) (8 * at) a, lt-ltb (i + k) (8 * next) (omega (arith, s.after)))
      says k (no a) (yes b) =
          t.bits.says k
          ∙ rw (le-ltb (i + k) (8 * at) (omega arith), lt-ltb (i + k) (8 * next) b, s.none (i + k) (omega arith) b)
      says k (no a) (no b) =
          t.bits.says k
          ∙ rw (le-ltb (i + k) (8 * at) (omega arith), le-ltb (i + k) (8 * next) (omega arith))

  module _ (e : word ≡ 0) where
    passed : Reached g n (marked marks) tile first out p (8 * at)
    passed = pass t.reached (8 * at) t.behind (none_left t.bits e)

    pub no_more : bytes ≤ at → Scanned g (marked marks) tile n first p out
    no_more h = done passed (omega (arith, t.enough))

    pub load : at < bytes → ((j : ℕ) → Fits w8 (get_or marks j 0)) → (word' : ℕ) → word' ≡ little marks at 8
        → Turn g n marks tile first out p bytes (8 * at) (at + 8) word'
    load h byte word' is = record {
      enough = t.enough;
      aligned = omega (arith, t.aligned);
      within = omega arith;
      behind = omega arith;
      bits = rw is (record { small = little-lt marks byte at 8; says = word-says marks byte at });
      reached = passed;
    }

  module _ (some : word ≡ 0 → ⊥) where
    above : 0 < word
    above = go (dec_lt 0 word)
      where
        go : Dec (0 < word) → 0 < word
        go (yes h) = h
        go (no h) = absurd (some (omega arith))

    pub zeros-few : count_trailing_zeros 64 word < 64
    zeros-few = skipped-few t.bits above

    pub before-end : i + count_trailing_zeros 64 word < 8 * at
    before-end = found_before t.bits above

    skipped : Reached g n (marked marks) tile first out p (i + count_trailing_zeros 64 word)
    skipped = pass t.reached (i + count_trailing_zeros 64 word) (omega arith) (skipped-none t.bits above)

    pub past_all : n ≤ i + count_trailing_zeros 64 word → Scanned g (marked marks) tile n first p out
    past_all h = done skipped h

    module _ (h : i + count_trailing_zeros 64 word < n) where
      pub room-for-one : p.tiles + 1 ≤ n
      room-for-one = tiles-before skipped h (found-marked t.bits above)

      pub next-turn : (r : Range) → r ≡ tile (i + count_trailing_zeros 64 word) → (q : Progress) (out' : List ℕ) → Visited g r p out q out'
          → Turn g n marks tile first out' q bytes (i + count_trailing_zeros 64 word + 1) at (word / 2 ^ count_trailing_zeros 64 word / 2 ^ 1)
      next-turn r is q out' v = record {
        enough = t.enough;
        aligned = t.aligned;
        within = t.within;
        behind = omega (arith, before-end);
        bits = next_word t.bits above;
        reached = meet skipped h (found-marked t.bits above) r is q out' v;
      }

-- ---- all ranges are written
pub all-written : {first out : List ℕ} {all : List Range} {ranges bytes : ℕ} → Left first all out ranges bytes []
    → (ranges ≡ length all) × (bytes ≡ total all % 2 ^ 64) × (out ≡ laid (words (take (length first / 2) all)) first)
unfolding words total
all-written {first} {out} {all} {ranges} l =
    let none : sets out (2 * ranges) (words (take (length first / 2 - ranges) [])) ≡ out = rw take-nil in
    (omega (arith, l.counted), omega (arith, l.summed, l.small), sym none ∙ l.stored ∙ sets-whole first _)
