-- The description file as it is read: which line is the next, the lines of the kinds and of the window as loops read
-- them, none at first and one more at each turn, and what comes of the whole.
-- Assumes nothing.
use mathlib.Core.Path.{◌≡◌, refl, ap, sym, ◌∙◌}
use mathlib.Core.Bool.{Bool, true, false, true≢false, ◌&&◌, cond}
use mathlib.Core.List.{List}
use Prim.Native.Nat.{ℕ, ◌+◌, ◌≤◌, ◌<◌}
use native.Mathlib.Nat.{zero-add}
use native.Mathlib.Numerals.{add-one}
use native.Mathlib.Omega.{arith}
use lib.ListN.{length, set, replicate}
use borrow.Author.Tests.{lt-ltb, eq-eqb, eqb-true, leb-true, le-leb}
use Rattle.std.specs.Prelude.{Option, Some, None, is_some, unwrap_or, option_map, Result, Ok, Err}
use Rattle.std.specs.Result.{is_err}
use Rattle.answers.specs.declared.Refusal.{Refusal}
use Rattle.answers.specs.declared.Refused.{Refused}
use Rattle.answers.specs.Told.{told}
use Rattle.answers.proofs.Told.{err-some, ok-clear}
use Rattle.std.proofs.lemmas.Option.{none-some, same_Some}
use Rattle.ranges.specs.declared.Range.{Range}
use Rattle.answers.specs.Runs.{filled}
use Rattle.answers.proofs.Runs.{over_done, over-snoc, over-says}
use Rattle.answers.proofs.Filled.{filled_none, filled_at, filled_more}
use Rattle.description.specs.declared.Kind.TheVariants.{Int32}
use Rattle.description.specs.declared.Dimension.{Dimension}
use Rattle.description.specs.declared.Description.{Description}
use Rattle.boxes.specs.declared.Side.{Side}
use Rattle.description.specs.Limits.{most_dimensions}
use Rattle.description.specs.Description.{kind_at, description_refusal}
use Rattle.description.proofs.Limits.{kept}
use Rattle.description.proofs.Tests.{both, and_assoc, and-true}
use Rattle.boxes.specs.Boxes.{all, no_side}
use Rattle.decimal.specs.Read.{read_number}
use Rattle.text.specs.Text.{lines, line_at}
use Rattle.text.proofs.Lines.{more-lines, no-more-lines}
use Rattle.report_text.specs.declared.Lines.{Lines}
use Rattle.report_text.specs.Asked.{number_at, is_width, dimension_of, dimensions_at, bits_at, description_of, window_line, window_read, window_side, is_good, said_with, asked_of}
use Rattle.report_text.specs.Code.Reading.{Next, side_read, Kinds, Sides}

all_more : (g : ℕ → Bool) (m : ℕ) → all g 0 (m + 1) ≡ all g 0 m && g m
all_more g m = rw (add-one m) (over-snoc ◌&&◌ true and_assoc (λ a. refl) and-true g 0 m ∙ rw (zero-add m))

-- one that does not pass
all-stopped : (g : ℕ → Bool) (m i : ℕ) → i < m → g i ≡ false → all g 0 m ≡ false
all-stopped g m i l e = go (all g 0 m) refl
  where
    go : (b : Bool) → all g 0 m ≡ b → all g 0 m ≡ false
    go true h = absurd (true≢false (sym (over-says ◌&&◌ true (λ b. b ≡ true) both g 0 m h i (omega arith) (omega arith)) ∙ e))
    go false h = h

-- a width, or none
width-some : (n : ℕ) {d : Dimension} → Some d ≡ cond (is_width n) (Some (dimension_of n)) None → (is_width n ≡ true) × (d ≡ dimension_of n)
width-some n {d} e = go (is_width n) e
  where
    go : (b : Bool) → Some d ≡ cond b (Some (dimension_of n)) None → (b ≡ true) × (d ≡ dimension_of n)
    go true e = (refl, same_Some _ _ e)
    go false e = absurd (none-some d (sym e))

width-none : (n : ℕ) → None ≡ cond (is_width n) (Some (dimension_of n)) None → is_width n ≡ false
width-none n e = go (is_width n) e
  where
    go : (b : Bool) → None ≡ cond b (Some (dimension_of n)) None → b ≡ false
    go true e = absurd (none-some _ e)
    go false e = refl

-- a side, or none
side-some : (o : Option Range) {s : Side} → Some s ≡ option_map (λ (r : Range). record { range = r }) o
    → (is_some o ≡ true) × (s ≡ record { range = unwrap_or o no_side.range })
side-some None {s} e = absurd (none-some s (sym e))
side-some (Some r) e = (refl, same_Some _ _ e)

side-none : (o : Option Range) → ◌≡◌ {A = Option Side} None (option_map (λ (r : Range). record { range = r }) o) → is_some o ≡ false
side-none None e = refl
side-none (Some r) e = absurd (none-some _ e)

module _ (t : List ℕ) where
  pub next-at : {k m : ℕ} {r : Lines} → Next t k r → k ≡ m → Next t m r
  next-at n e = rw e at n

  pub kinds-none : {wide : Dimension} {r : Lines} → Next t 1 r → wide ≡ dimension_of 64 → Kinds t 0 (replicate 4 wide) r
  kinds-none n e = record {
    good = over_done ◌&&◌ true (λ i. is_width (bits_at t i)) 0 0 (omega arith);
    filled_kinds = rw e (sym (filled_none (λ i. dimension_of (bits_at t i)) (dimension_of 64) 4));
    next = n;
  }

  pub kinds-more : (m : ℕ) {kinds : List Dimension} {n : ℕ} {d : Dimension} {before after : Lines} → m < 4 → Kinds t m kinds before
      → (Some n ≡ number_at t (1 + m)) × Next t (1 + m + 1) after → Some d ≡ cond (is_width n) (Some (dimension_of n)) None
      → Kinds t (m + 1) (set kinds m d) after
  kinds-more m {n = n} l w r e =
      let w' = width-some n e in
      let b : bits_at t m ≡ n = rw (← r.0) in
      record {
        good = all_more (λ i. is_width (bits_at t i)) m ∙ rw (w.good, b, w'.0);
        filled_kinds = rw (w.filled_kinds, w'.1, ← b) (filled_more (λ i. dimension_of (bits_at t i)) (dimension_of 64) m 4 l);
        next = next-at r.1 (omega arith);
      }

  -- a line that is no number, or no width
  pub kinds-unread : (D m : ℕ) → m < D → None ≡ number_at t (1 + m) → all (λ i. is_width (bits_at t i)) 0 D ≡ false
  kinds-unread D m l e = all-stopped (λ i. is_width (bits_at t i)) D m l (rw (← e))

  pub kinds-other : (D m : ℕ) {n : ℕ} → m < D → Some n ≡ number_at t (1 + m) → None ≡ cond (is_width n) (Some (dimension_of n)) None
      → all (λ i. is_width (bits_at t i)) 0 D ≡ false
  kinds-other D m {n} l r e = all-stopped (λ i. is_width (bits_at t i)) D m l (rw (← r) (width-none n e))

  -- a dimension's kind is read back
  pub kind-back : (D m : ℕ) → m < D → D ≤ 4 → {kinds : List Dimension} → kinds ≡ filled (λ i. dimension_of (bits_at t i)) (dimension_of 64) D 4
      → kind_at kinds m ≡ (dimension_of (bits_at t m)).kind
  kind-back D m l h e =
      let z = filled_at (λ i. dimension_of (bits_at t i)) (dimension_of 64) D 4 m (record { kind = Int32 }) (omega arith) in
      rw e (ap (λ (d : Dimension). d.kind) (z ∙ rw (lt-ltb m D l)))

  module _ (D : ℕ) where
    pub sides-none : {sides : List Side} {r : Lines} → Next t (5 + D) r → sides ≡ filled (window_side t D) no_side 0 4 → Sides t D 0 sides r
    sides-none n e = record {
      good = over_done ◌&&◌ true (λ i. is_some (window_read t D i)) 0 0 (omega arith);
      filled_sides = e;
      next = next-at n (omega arith);
    }

    pub sides-more : (m : ℕ) {sides : List Side} {s : Side} {before after : Lines} → m < 4 → Sides t D m sides before
        → Some s ≡ side_read t (window_line t D m) (dimension_of (bits_at t m)).kind → Next t (window_line t D m + 2) after
        → Sides t D (m + 1) (set sides m s) after
    sides-more m l w e n =
        let w' = side-some (window_read t D m) e in
        record {
          good = all_more (λ i. is_some (window_read t D i)) m ∙ rw (w.good, w'.0);
          filled_sides = rw (w.filled_sides, w'.1) (filled_more (window_side t D) no_side m 4 l);
          next = next-at n (omega arith);
        }

    pub sides-unread : (m : ℕ) → m < D → None ≡ side_read t (window_line t D m) (dimension_of (bits_at t m)).kind
        → all (λ i. is_some (window_read t D i)) 0 D ≡ false
    sides-unread m l e = all-stopped (λ i. is_some (window_read t D i)) D m l (side-none (window_read t D m) e)

  -- what the whole file has to be
  pub record Good (D : ℕ) : Type 0 where
    pub clear : (description_refusal (description_of t D)).number ≡ 0
    pub widths : all (λ i. is_width (bits_at t i)) 0 D ≡ true
    pub size : is_some (number_at t (3 + D)) ≡ true
    pub bytes : is_some (number_at t (4 + D)) ≡ true
    pub sides : all (λ i. is_some (window_read t D i)) 0 D ≡ true
    pub whole : length (lines t) ≤ window_line t D D

  good : (D : ℕ) → is_good t D ≡ true → Good D
  unfolding is_good
  good D h =
      let a = both _ _ h in
      let b = both _ _ a.0 in
      let c = both _ _ b.0 in
      let d = both _ _ c.0 in
      let e = both _ _ d.0 in
      record {
        clear = eqb-true _ 0 e.0;
        widths = e.1;
        size = d.1;
        bytes = c.1;
        sides = b.1;
        whole = leb-true _ _ a.1;
      }

  -- it is not
  module _ {D : ℕ} (own : D ≡ dimensions_at t) where
    pub asked-none : (Good D → ⊥) → None ≡ asked_of t
    unfolding asked_of
    asked-none wrong = rw (← own) (go (is_good t D) (λ e. wrong (good D e)))
      where
        go : (b : Bool) → (b ≡ true → ⊥) → None ≡ cond b (Some (said_with t D)) None
        go true w = absurd (w refl)
        go false w = refl

    pub unread-widths : all (λ i. is_width (bits_at t i)) 0 D ≡ false → None ≡ asked_of t
    unread-widths e = asked-none (λ g. true≢false (sym g.widths ∙ e))

    pub unread-fields : None ≡ number_at t (1 + D) → None ≡ asked_of t
    unread-fields e = asked-none (λ g. omega (arith, rw (← e) at (kept (description_of t D) g.clear).some-fields))

    pub unread-capacity : None ≡ number_at t (2 + D) → None ≡ asked_of t
    unread-capacity e = asked-none (λ g. omega (arith, rw (← e) at (kept _ g.clear).some-capacity))

    pub unread-size : None ≡ number_at t (3 + D) → None ≡ asked_of t
    unread-size e = asked-none (λ g. true≢false (sym (rw (← e) at g.size)))

    pub unread-bytes : None ≡ number_at t (4 + D) → None ≡ asked_of t
    unread-bytes e = asked-none (λ g. true≢false (sym (rw (← e) at g.bytes)))

    pub unread-sides : all (λ i. is_some (window_read t D i)) 0 D ≡ false → None ≡ asked_of t
    unread-sides e = asked-none (λ g. true≢false (sym g.sides ∙ e))

  pub unread-dimensions : None ≡ read_number most_dimensions (line_at 0 t) → None ≡ asked_of t
  unread-dimensions e =
      let own : 0 ≡ dimensions_at t = rw (← e) in
      asked-none own (λ g. omega (arith, (kept _ g.clear).some-dimensions))

-- whether a check refused
pub told-refused : (r : Result Unit Refused) {x : Refusal} → told r ≡ x → is_err r ≡ true → x.number ≡ 0 → ⊥
told-refused (Ok _) says h = absurd (true≢false (sym h))
told-refused (Err e) says h = err-some says {e = e} refl

pub told-clear : (r : Result Unit Refused) {x : Refusal} → told r ≡ x → is_err r ≡ false → x.number ≡ 0
told-clear (Ok u) says h = ok-clear says {u = u} refl
told-clear (Err e) says h = absurd (true≢false h)

-- all of it is read
abbrev described : ℕ → List Dimension → ℕ → ℕ → Description
described D kinds fields capacity = record { dimensions = D; kinds = kinds; fields = fields; capacity = capacity }

module _ (t : List ℕ) {D fields capacity : ℕ} {kinds : List Dimension} {next : Lines}
    (own : D ≡ dimensions_at t) (k : Kinds t D kinds next) (f : Some fields ≡ number_at t (1 + D)) (c : Some capacity ≡ number_at t (2 + D)) where
  described-of : described D kinds fields capacity ≡ description_of t D
  described-of = simp (k.filled_kinds, ← f, ← c)

  pub unread-description : ((description_refusal (described D kinds fields capacity)).number ≡ 0 → ⊥) → None ≡ asked_of t
  unread-description some = asked-none t own (λ g. some (rw described-of g.clear))

  module _ {size bytes : ℕ} {sides : List Side} {past : Lines}
      (s : Some size ≡ number_at t (3 + D)) (b : Some bytes ≡ number_at t (4 + D)) (v : Sides t D D sides past) where
    pub asked-read : length t ≤ past.at → (description_refusal (described D kinds fields capacity)).number ≡ 0
        → Some (record {
          description = described D kinds fields capacity;
          file_size = size;
          data_size = bytes;
          window = record { dimensions = D; sides = sides };
        }) ≡ asked_of t
    unfolding asked_of is_good
    asked-read l clear =
        let z : (description_refusal (description_of t D)).number ≡ 0 = rw (← described-of) clear in
        rw (← own, eq-eqb _ 0 z, k.good, ← s, ← b, v.good, le-leb (length (lines t)) _ (no-more-lines v.next.here l), described-of, v.filled_sides)

-- lines are left
pub unread-end : (t : List ℕ) {D : ℕ} {sides : List Side} {past : Lines} → D ≡ dimensions_at t → Sides t D D sides past → past.at < length t
    → None ≡ asked_of t
unread-end t own v l = asked-none t own (λ g. omega (arith, g.whole, more-lines v.next.here l))
