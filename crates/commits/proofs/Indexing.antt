-- How a listing is read line by line: what is known of the lines so far, one more of them, a refusal, and the end.
-- Assumes nothing.
use mathlib.Core.Path.{◌≡◌, refl, ap, sym, ◌∙◌}
use mathlib.Core.Bool.{Bool, true, false, not, cond}
use mathlib.Core.Logic.{◌⊎◌, inl, inr}
use mathlib.Core.List.{List, [], ◌∷◌}
use Prim.Native.Nat.{ℕ, zero, suc, ◌+◌, ◌-◌, ◌≤◌, ◌<◌}
use native.Mathlib.Nat.{eq-or-lt_of_le}
use native.Mathlib.Numerals.{add-one}
use native.Mathlib.Omega.{arith}
use lib.Dec.{eqb, leb}
use lib.ListN.{length, get_or, set, take, drop, length-set, length-take}
use lib.Seq.{drop-drop, take-nil, get_or-set_same, get_or-set_other}
use borrow.Author.Tests.{le-leb, lt-leb, eqb-true, eqb-false}
use Rattle.answers.specs.declared.Reason.{Reason}
use Rattle.answers.specs.declared.Refused.{Refused}
use Rattle.answers.specs.Refusals.{refusal, none, bad_line, repeated}
use Rattle.answers.specs.Told.{number_of, refused, said}
use Rattle.answers.proofs.Told.{refuses}
use Rattle.answers.specs.Checks.{each}
use Rattle.answers.proofs.Checks.{past-check, stop-check, ended, past-left, stop-left, none_left}
use Rattle.answers.proofs.Runs.{over-start}
use Rattle.text.specs.Text.{Bytes, newline, lines, same}
use Rattle.text.specs.Cursor.{end_from, after}
use Rattle.text.specs.Code.Places.{AtLine}
use Rattle.text.proofs.Lines.{first-line, line-at, end-inside, next-line, more-lines, no-more-lines}
use Rattle.commits.specs.Records.{kind_of, name_of, is_record}
use Rattle.commits.specs.Committed.{some, names, line_in, most_lines, line_refusal, listing_refusal}
use Rattle.commits.specs.Code.Index.{kind_code, ReadRecord, chain_of, last_in, RowOf, no_row, row_at, Table, Chains, Index, ReadListing}
use Rattle.commits.specs.declared.Record.{Record}
use Rattle.commits.specs.declared.Row.{Row}
use Rattle.commits.proofs.Listed.{head_of}
use Rattle.commits.proofs.Repeats.{repeats}

-- ---- what a line is refused with
module _ (ls : List Bytes) (n : ℕ) where
  pub line-many : most_lines ≤ n → line_refusal ls n ≡ refusal bad_line n
  unfolding line_refusal
  line-many h = stop-check (leb most_lines n) bad_line n _ (le-leb most_lines n h) (omega arith)

  pub line-bad : n < most_lines → is_record (line_in ls n) ≡ false → line_refusal ls n ≡ refusal bad_line n
  unfolding line_refusal
  line-bad h e = past-check (leb most_lines n) bad_line n _ (lt-leb most_lines n h) ∙ stop-check (not (is_record (line_in ls n))) bad_line n _ (rw e) (omega arith)

  pub line-again : n < most_lines → is_record (line_in ls n) ≡ true → some (same (line_in ls n)) (take n ls) ≡ true → line_refusal ls n ≡ refusal repeated n
  unfolding line_refusal
  line-again h e f =
      past-check (leb most_lines n) bad_line n _ (lt-leb most_lines n h)
      ∙ past-check (not (is_record (line_in ls n))) bad_line n _ (rw e)
      ∙ stop-check (some (same (line_in ls n)) (take n ls)) repeated n _ f (omega arith)

  pub line-good : n < most_lines → is_record (line_in ls n) ≡ true → some (same (line_in ls n)) (take n ls) ≡ false → line_refusal ls n ≡ none
  unfolding line_refusal
  line-good h e f =
      past-check (leb most_lines n) bad_line n _ (lt-leb most_lines n h)
      ∙ past-check (not (is_record (line_in ls n))) bad_line n _ (rw e)
      ∙ past-check (some (same (line_in ls n)) (take n ls)) repeated n _ f
      ∙ ended

-- as the code says it
pub bad-said : (n : ℕ) {e : Refused} → e ≡ refused Reason.BadLine n → said e ≡ refusal bad_line n
unfolding number_of
bad-said n e = rw e

pub repeated-said : (n : ℕ) {e : Refused} → e ≡ refused Reason.Repeated n → said e ≡ refusal repeated n
unfolding number_of
repeated-said n e = rw e

-- ---- the lines so far
pub record Progress (t : Bytes) (at n : ℕ) (rows : List Row) (next heads : List ℕ) : Type 0 where
  pub here : AtLine t n at
  pub clear : listing_refusal (lines t) ≡ each (line_refusal (lines t)) n (length (lines t) - n)
  pub records : (i : ℕ) → i < n → is_record (line_in (lines t) i) ≡ true
  pub index : Index t n rows next heads

pub progress_start : {t : Bytes} {rows : List Row} {next heads : List ℕ} → Index t 0 rows next heads → Progress t 0 0 rows next heads
unfolding listing_refusal
progress_start {t} x = record {
  here = first-line t;
  clear = over-start _ _ (line_refusal (lines t)) (length (lines t));
  records = λ i h. absurd (omega arith);
  index = x;
}

module _ {t : Bytes} {at n : ℕ} {rows : List Row} {next heads : List ℕ} (p : Progress t at n rows next heads) where
  pub refused-at : at < length t → (e : Refused) → said e ≡ line_refusal (lines t) n → said e ≡ listing_refusal (lines t)
  refused-at h e is =
      sym (p.clear ∙ stop-left (line_refusal (lines t)) n (length (lines t)) (said e) (more-lines p.here h) is (refuses e))

  pub all_read : length t ≤ at → ReadListing t n rows next heads
  all_read h = record {
    clear = p.clear ∙ none_left (line_refusal (lines t)) n (length (lines t) - n) (omega (arith, no-more-lines p.here h));
    index = p.index;
    whole = omega (arith, no-more-lines p.here h, p.index.table.there);
  }

-- ---- one more line
at-most : (i n : ℕ) → i ≤ n → (i ≡ n) ⊎ (i < n)
at-most i n h = eq-or-lt_of_le h

module _ {t : Bytes} {at n : ℕ} {rows : List Row} {next heads : List ℕ} (p : Progress t at n rows next heads)
    {l : Bytes} (more : n < length (lines t)) (line : line_in (lines t) n ≡ l) (few : n < most_lines) where
  pub is-again : is_record l ≡ true → some (same (line_in (lines t) n)) (take n (lines t)) ≡ names (kind_of l) (take n (lines t)) (name_of l)
  is-again good = rw (line) (repeats (lines t) l good n p.index.table.there p.records)

  table_more : (r : Row) → RowOf t l r → Table t (n + 1) (set rows n r)
  table_more r row = record {
    size = length-set rows n r ∙ p.index.table.size;
    few = omega arith;
    there = omega (arith, more);
    row = λ i h. go i (at-most i n (omega arith));
  }
    where
      new : row_at (set rows n r) n ≡ r
      new = get_or-set_same rows n r no_row (omega (arith, p.index.table.size))

      old : (i : ℕ) → i < n → row_at (set rows n r) i ≡ row_at rows i
      old i m = get_or-set_other rows n i r no_row (λ q. omega arith)

      go : (i : ℕ) → (i ≡ n) ⊎ (i < n) → RowOf t (line_in (lines t) i) (row_at (set rows n r) i)
      go i (inl e) = rw (e, line, new) row
      go i (inr m) = rw (old i m) (p.index.table.row i m)

  chains-more : (e : ℕ) → e ≡ last_in (lines t) (chain_of (name_of l)) n → Chains t (n + 1) (set next n e)
  chains-more e is = record {
    size = length-set next n e ∙ p.index.chains.size;
    leads = λ i h. go i (at-most i n (omega arith));
  }
    where
      go : (i : ℕ) → (i ≡ n) ⊎ (i < n) → get_or (set next n e) i 0 ≡ last_in (lines t) (chain_of (name_of (line_in (lines t) i))) i
      go i (inl q) = rw (q, line) (get_or-set_same next n e 0 (omega (arith, p.index.chains.size)) ∙ is)
      go i (inr m) = get_or-set_other next n i e 0 (λ q. omega arith) ∙ p.index.chains.leads i m

  headed-more : (c : ℕ) → c ≡ chain_of (name_of l) → c < 1024 → (h : ℕ) → h < 1024 → get_or (set heads c (n + 1)) h 0 ≡ last_in (lines t) h (n + 1)
  unfolding last_in
  headed-more c is small h m = rw (add-one n, line) (go (eqb (chain_of (name_of l)) h) refl)
    where
      go : (b : Bool) → eqb (chain_of (name_of l)) h ≡ b → get_or (set heads c (suc n)) h 0 ≡ cond b (suc n) (last_in (lines t) h n)
      go true e =
          let z : h ≡ c = sym (is ∙ eqb-true (chain_of (name_of l)) h e) in
          rw z (get_or-set_same heads c (suc n) 0 (omega (arith, p.index.ends.size)))
      go false e = get_or-set_other heads c h (suc n) 0 (λ z. eqb-false (chain_of (name_of l)) h e (sym is ∙ sym z)) ∙ p.index.ends.last h m

  pub progress-more : is_record l ≡ true → names (kind_of l) (take n (lines t)) (name_of l) ≡ false
      → (r : Row) → RowOf t l r → (e : ℕ) → e ≡ last_in (lines t) (chain_of (name_of l)) n → r.chain < 1024
      → (at' : ℕ) → AtLine t (n + 1) at'
      → Progress t at' (n + 1) (set rows n r) (set next n e) (set heads r.chain (n + 1))
  progress-more good new r row e last small at' past =
      let fine : is_record (line_in (lines t) n) ≡ true = rw line good in
      record {
        here = past;
        clear = p.clear ∙ past-left (line_refusal (lines t)) n (length (lines t)) none more
            (sym (line-good (lines t) n few fine (is-again good ∙ new))) refl;
        records = λ i m. records-more fine i (at-most i n (omega arith));
        index = record {
          table = table_more r row;
          chains = chains-more e last;
          ends = record { size = length-set heads r.chain (n + 1) ∙ p.index.ends.size; last = headed-more r.chain row.in-chain small };
        };
      }
    where
      records-more : is_record (line_in (lines t) n) ≡ true → (i : ℕ) → (i ≡ n) ⊎ (i < n) → is_record (line_in (lines t) i) ≡ true
      records-more fine i (inl z) = rw z fine
      records-more fine i (inr m) = p.records i m

-- ---- the name in the line, and in the text
drop-take : (k m : ℕ) (s : Bytes) → drop k (take m s) ≡ take (m - k) (drop k s)
drop-take zero m s =
    let z : m - 0 ≡ m = omega arith in
    rw z
drop-take (suc k) zero s =
    let z : 0 - suc k ≡ 0 = omega arith in
    rw z
drop-take (suc k) (suc m) [] = sym (take-nil (suc m - suc k))
drop-take (suc k) (suc m) (a ∷ s) =
    let z : suc m - suc k ≡ m - k = omega arith in
    rw z (drop-take k m s)

module _ (t : Bytes) (at e : ℕ) where
  name-forward : (j : ℕ) → at ≤ e → j ≤ length (take (e - at) (drop at t)) → at + j ≤ e
  name-forward j h l = omega (arith, length-take (e - at) (drop at t))

  name-there : (j : ℕ) (name : Bytes) → drop j (take (e - at) (drop at t)) ≡ name → take (e - (at + j)) (drop (at + j) t) ≡ name
  name-there j name is =
      let z : e - at - j ≡ e - (at + j) = omega arith in
      sym (drop-take j (e - at) (drop at t) ∙ rw (z, drop-drop j at t)) ∙ is

-- ---- the line at hand
module _ {t : Bytes} {at n : ℕ} {rows : List Row} {next heads : List ℕ} (p : Progress t at n rows next heads)
    (e : ℕ) (h : at < length t) (below : n ≡ most_lines → ⊥) (end : e ≡ end_from newline t at) where
  abbrev l : Bytes
  l = take (e - at) (drop at t)

  line : line_in (lines t) n ≡ l
  line = sym (line-at t n p.here end)

  few : n < most_lines
  few = omega (arith, p.index.table.few)

  pub bad-line : is_record l ≡ false → (x : Refused) → x ≡ refused Reason.BadLine n → said x ≡ listing_refusal (lines t)
  bad-line bad x is = refused-at p h x (bad-said n is ∙ sym (line-bad (lines t) n few (ap is_record line ∙ bad)))

  -- once it is read as a record
  module _ (r : Record) (read : ReadRecord l r) where
    abbrev name : Bytes
    name = take (e - (at + r.name)) (drop (at + r.name) t)

    pub forward : at + r.name ≤ e
    forward = name-forward t at e r.name (omega arith) read.inside

    named : name ≡ name_of l
    named = name-there t at e r.name (name_of l) read.name

    seen : {found : Bool} → found ≡ names (kind_code r.kind) (take n (lines t)) name → names (kind_of l) (take n (lines t)) (name_of l) ≡ found
    seen is = rw (← read.kind, ← named) (sym is)

    pub again : (found : Bool) → found ≡ names (kind_code r.kind) (take n (lines t)) name → found ≡ true
        → (x : Refused) → x ≡ refused Reason.Repeated n → said x ≡ listing_refusal (lines t)
    again found is hit x told =
        refused-at p h x
        (repeated-said n told
        ∙ sym (line-again (lines t) n few (ap is_record line ∙ read.fine) (is-again p (more-lines p.here h) line few read.fine ∙ seen is ∙ hit)))

    pub one_more : (found : Bool) → found ≡ names (kind_code r.kind) (take n (lines t)) name → found ≡ false
        → (c at' : ℕ) → c ≡ chain_of name → c < 1024 → at' ≡ after t e
        → Progress t at' (n + 1)
        (set rows n (record { start = at + r.name; end = e; kind = r.kind; time = r.time; chain = c }))
        (set next n (get_or heads c 0))
        (set heads c (n + 1))
    one_more found is miss c at' chain small past =
        let z : c ≡ chain_of (name_of l) = chain ∙ ap chain_of named in
        progress-more p (more-lines p.here h) line few read.fine (seen is ∙ miss)
        (record { start = at + r.name; end = e; kind = r.kind; time = r.time; chain = c })
        (record {
          forward = forward;
          inside = end-inside t n p.here end (omega arith);
          name = named;
          kind = read.kind;
          late = read.time;
          in-chain = z;
        })
        (get_or heads c 0) (head_of p.index c (name_of l) z small) small at' (next-line t n p.here end past)
