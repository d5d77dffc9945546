-- Which lines are listed, as the code asks; and the numbers of those lines, written one by one.
-- Assumes nothing.
use mathlib.Core.Path.{◌≡◌, refl, ap, sym, ◌∙◌}
use mathlib.Core.Bool.{Bool, true, false, cond, ◌&&◌, not, true≢false, false≢true}
use denote.Enum.Bare.{sameb}
use mathlib.Core.List.{List, [], ◌∷◌}
use Prim.Native.Nat.{ℕ, ◌+◌, ◌-◌, ◌≤◌, ◌<◌}
use native.Mathlib.Numerals.{add-one}
use native.Mathlib.Omega.{arith}
use lib.Dec.{eqb}
use lib.ListN.{length, take, drop, get_or, set, drop_of_length-le}
use lib.Seq.{sets, length-sets, take_all, drop-cons}
use borrow.Author.Tests.{eq-eqb, ne_eqb, le-leb, lt-leb}
use Rattle.answers.specs.Laid.{laid}
use Rattle.answers.proofs.Laid.{sets-whole}
use Rattle.text.specs.Text.{Bytes, lines}
use Rattle.commits.specs.Records.{kind_of, name_of, time_of}
use Rattle.commits.specs.Committed.{names, counts, listed, numbers, line_in}
use Rattle.commits.specs.declared.Kind.{Kind}
use Rattle.commits.specs.contracts.Kind.{the_type}
use Rattle.commits.specs.declared.Row.{Row}
use Rattle.commits.specs.Code.Index.{kind_code, chain_of, last_in, row_at, Index}

and-false : (a : Bool) → (a && false) ≡ false
and-false true = refl
and-false false = refl

and-true : (a : Bool) → (a && true) ≡ a
and-true true = refl
and-true false = refl

module _ (time : ℕ) (ls : List Bytes) (l : Bytes) where
  pub listed-other : (kind_of l ≡ 0 → ⊥) → false ≡ listed time ls l
  unfolding listed
  listed-other h = rw (ne_eqb (kind_of l) 0 h)

  pub listed-late : time < time_of (name_of l) → false ≡ listed time ls l
  unfolding listed
  listed-late h = rw (lt-leb (time_of (name_of l)) time h, and-false (counts ls (name_of l)), and-false (eqb (kind_of l) 0))

  pub listed-counts : kind_of l ≡ 0 → time_of (name_of l) ≤ time → counts ls (name_of l) ≡ listed time ls l
  unfolding listed
  listed-counts is early = rw (eq-eqb (kind_of l) 0 is, le-leb (time_of (name_of l)) time early, and-true (counts ls (name_of l)))

-- all lines, and the name by its own text
pub names-whole : (kind n : ℕ) (ls : List Bytes) (slice name : Bytes) (r : Bool) → n ≡ length ls → slice ≡ name → r ≡ names kind (take n ls) slice
    → r ≡ names kind ls name
names-whole kind n ls slice name r e f h = h ∙ rw (take_all n ls (omega arith), f)

pub head_of : {t : Bytes} {n : ℕ} {rows : List Row} {next heads : List ℕ} → Index t n rows next heads → (h : ℕ) (name : Bytes) → h ≡ chain_of name → h < 1024 → get_or heads h 0 ≡ last_in (lines t) (chain_of name) n
head_of x h name e l = x.ends.last h l ∙ rw e

-- a row's chain, and the last line of it
module _ {t : Bytes} {n : ℕ} {rows : List Row} {next heads : List ℕ} (x : Index t n rows next heads) (i : ℕ) (h : i < n) where
  pub row-chain : (row_at rows i).chain < 1024
  unfolding chain_of
  row-chain = rw (x.table.row i h).in-chain (omega arith)

  pub row-head : get_or heads (row_at rows i).chain 0
      ≡ last_in (lines t) (chain_of (take ((row_at rows i).end - (row_at rows i).start) (drop (row_at rows i).start t))) n
  row-head = x.ends.last (row_at rows i).chain row-chain ∙ rw ((x.table.row i h).in-chain, (x.table.row i h).name)

-- a kind that is a folder's, or another
pub folder-kind : (k : Kind) → false ≡ not (sameb the_type k Kind.Folder) → kind_code k ≡ 0
folder-kind Kind.Folder e = refl
folder-kind Kind.Wrt e = absurd (false≢true e)
folder-kind Kind.Con e = absurd (false≢true e)
folder-kind Kind.Ign e = absurd (false≢true e)

pub other-kind : (k : Kind) → true ≡ not (sameb the_type k Kind.Folder) → kind_code k ≡ 0 → ⊥
other-kind Kind.Folder e z = true≢false e
other-kind Kind.Wrt e z = omega arith
other-kind Kind.Con e z = omega arith
other-kind Kind.Ign e z = omega arith

-- ---- the loop over the lines: those still to be written, over what stands there now, are all of them over what stood there first
pub record Left (test : Bytes → Bool) (ls : List Bytes) (first out : List ℕ) (found i : ℕ) : Type 0 where
  pub within : i ≤ length ls
  pub few : found ≤ i
  pub counted : found + length (numbers test i (drop i ls)) ≡ length (numbers test 0 ls)
  pub stored : sets out found (numbers test i (drop i ls)) ≡ sets first 0 (numbers test 0 ls)

module _ (test : Bytes → Bool) (ls : List Bytes) where
  pub left-start : (first : List ℕ) → Left test ls first first 0 0
  left-start first = record { within = omega arith; few = omega arith; counted = omega arith; stored = refl }

  turn : (i : ℕ) → i < length ls
      → numbers test i (drop i ls) ≡ cond (test (line_in ls i)) (i ∷ numbers test (i + 1) (drop (i + 1) ls)) (numbers test (i + 1) (drop (i + 1) ls))
  unfolding numbers
  turn i h = rw (drop-cons ls i [] h, add-one i)

module _ {test : Bytes → Bool} {ls : List Bytes} {first out : List ℕ} {found i : ℕ} (x : Left test ls first out found i) where
  pub left-skip : i < length ls → test (line_in ls i) ≡ false → Left test ls first out found (i + 1)
  left-skip h e =
      let z : numbers test i (drop i ls) ≡ numbers test (i + 1) (drop (i + 1) ls) = turn test ls i h ∙ rw e in
      record { within = omega arith; few = omega (arith, x.few); counted = rw (← z) x.counted; stored = rw (← z) x.stored }

  pub left-put : i < length ls → test (line_in ls i) ≡ true → (out' : List ℕ) → out' ≡ set out found i → Left test ls first out' (found + 1) (i + 1)
  left-put h e out' o =
      let z : numbers test i (drop i ls) ≡ i ∷ numbers test (i + 1) (drop (i + 1) ls) = turn test ls i h ∙ rw e in
      record {
        within = omega arith;
        few = omega (arith, x.few);
        counted = omega (arith, x.counted, ap length z);
        stored = rw (o, add-one found) (rw z at x.stored);
      }

  pub left-size : length out ≡ length first
  left-size =
      sym (length-sets out found (numbers test i (drop i ls))) ∙ ap length x.stored ∙ length-sets first 0 (numbers test 0 ls)

  pub left_end : length ls ≤ i → (found ≡ length (numbers test 0 ls)) × (out ≡ laid (numbers test 0 ls) first)
  unfolding numbers
  left_end h =
      let c = rw (drop_of_length-le ls {i = i} h) at x.counted in
      let s = rw (drop_of_length-le ls {i = i} h) at x.stored in
      (omega (arith, c), s ∙ sets-whole first (numbers test 0 ls))
