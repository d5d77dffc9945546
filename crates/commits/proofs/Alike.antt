-- Two listings that differ only in folders that don't count find the same names.
-- Assumes nothing.
use mathlib.Core.Path.{◌≡◌, refl, ap, sym, ◌∙◌}
use mathlib.Core.Bool.{Bool, true, false, not, cond, ◌||◌, true≢false, false≢true}
use mathlib.Core.List.{List, [], ◌∷◌}
use Prim.Native.Nat.{ℕ, zero, suc, ◌+◌, ◌<◌, min}
use native.Mathlib.Nat.{add-zero, zero-add, suc-add, add-suc}
use native.Mathlib.Omega.{arith}
use lib.Dec.{eqb}
use lib.ListN.{length, get_or}
use borrow.Author.Tests.{eqb-true, ne_eqb}
use Rattle.answers.specs.Laid.{laid}
use Rattle.answers.proofs.Laid.{laid-length, laid-at}
use Rattle.text.specs.Text.{Bytes, lines, same}
use Rattle.commits.specs.declared.Committed.{Committed}
use Rattle.commits.specs.Records.{folder, kind_of, name_of}
use Rattle.commits.specs.Committed.{some, chosen, numbers, Accepted, bears, names, counts, listed, lines_listed, committed_lines, committed_answer}
use Rattle.commits.specs.Alike.{kept, settled, name_at, AlikeListings}

-- what is looked for is among the chosen
some-chosen : (q p : Bytes → Bool) → ((l : Bytes) → q l ≡ true → p l ≡ true) → (ls : List Bytes) → some q (chosen p ls) ≡ some q ls
unfolding some chosen
some-chosen q p h [] = refl
some-chosen q p h (l ∷ ls) = go (q l) (p l) refl refl (some-chosen q p h ls)
  where
    go : (a b : Bool) → q l ≡ a → p l ≡ b → some q (chosen p ls) ≡ some q ls → some q (cond (p l) (l ∷ chosen p ls) (chosen p ls)) ≡ (q l || some q ls)
    go a true e f g = rw f (ap (λ (x : Bool). q l || x) g)
    go false false e f g = rw (f, e) g
    go true false e f g = absurd (true≢false (sym (h l e) ∙ f))

chosen-chosen : (r p : Bytes → Bool) → ((l : Bytes) → r l ≡ true → p l ≡ true) → (ls : List Bytes) → chosen r (chosen p ls) ≡ chosen r ls
unfolding chosen
chosen-chosen r p h [] = refl
chosen-chosen r p h (l ∷ ls) = go (r l) (p l) refl refl (chosen-chosen r p h ls)
  where
    go : (a b : Bool) → r l ≡ a → p l ≡ b → chosen r (chosen p ls) ≡ chosen r ls
        → chosen r (cond (p l) (l ∷ chosen p ls) (chosen p ls)) ≡ cond (r l) (l ∷ chosen r ls) (chosen r ls)
    go a true e f g = rw f (ap (λ (x : List Bytes). cond (r l) (l ∷ x) x) g)
    go false false e f g = rw (f, e) g
    go true false e f g = absurd (true≢false (sym (h l e) ∙ f))

chosen-ext : (r s : Bytes → Bool) → ((l : Bytes) → r l ≡ s l) → (ls : List Bytes) → chosen r ls ≡ chosen s ls
unfolding chosen
chosen-ext r s h [] = refl
chosen-ext r s h (l ∷ ls) = rw (h l, chosen-ext r s h ls)

-- ---- a line that names something is kept, so the same folders count
named-kept : (kind : ℕ) → 0 < kind → (ls : List Bytes) (name l : Bytes) → bears kind name l ≡ true → kept ls l ≡ true
unfolding kept
named-kept kind some ls name l e = go (eqb (kind_of l) kind) refl
  where
    go : (t : Bool) → eqb (kind_of l) kind ≡ t → (not (eqb (kind_of l) folder) || counts ls (name_of l)) ≡ true
    go true f =
        let z : kind_of l ≡ kind = eqb-true (kind_of l) kind f in
        rw (ne_eqb (kind_of l) 0 (λ h. omega arith))
    go false f = absurd (false≢true (rw f at e))

counts-kept : (ls : List Bytes) (name : Bytes) → counts (settled ls) name ≡ counts ls name
unfolding counts names
counts-kept ls name = rw (
  some-chosen (bears 1 name) (kept ls) (named-kept 1 (omega arith) ls name) ls,
  some-chosen (bears 2 name) (kept ls) (named-kept 2 (omega arith) ls name) ls,
  some-chosen (bears 3 name) (kept ls) (named-kept 3 (omega arith) ls name) ls,
)

module _ (time : ℕ) (ls : List Bytes) where
  listed_kept : (l : Bytes) → listed time ls l ≡ true → kept ls l ≡ true
  unfolding listed kept
  listed_kept l e = go (eqb (kind_of l) folder) (counts ls (name_of l)) refl refl
    where
      go : (a b : Bool) → eqb (kind_of l) folder ≡ a → counts ls (name_of l) ≡ b → (not (eqb (kind_of l) folder) || counts ls (name_of l)) ≡ true
      go false b f g = rw f
      go true true f g = rw (f, g)
      go true false f g = absurd (true≢false (sym e ∙ rw (f, g)))

  listed_same : (l : Bytes) → listed time ls l ≡ listed time (settled ls) l
  unfolding listed
  listed_same l = rw (counts-kept ls (name_of l))

  by-kept : chosen (listed time ls) ls ≡ chosen (listed time (settled ls)) (settled ls)
  by-kept =
      sym (chosen-chosen (listed time ls) (kept ls) listed_kept ls)
      ∙ chosen-ext (listed time ls) (listed time (settled ls)) listed_same (settled ls)

-- the lines found are the same
pub alike : (time : ℕ) (a b : List Bytes) → settled a ≡ settled b → chosen (listed time a) a ≡ chosen (listed time b) b
alike time a b h = by-kept time a ∙ rw h (sym (by-kept time b))

-- ---- the numbers, and the lines that they stand for
module _ (test : Bytes → Bool) where
  pub numbers-length : (i : ℕ) (ls : List Bytes) → length (numbers test i ls) ≡ length (chosen test ls)
  unfolding numbers chosen
  numbers-length i [] = refl
  numbers-length i (l ∷ ls) = go (test l) (numbers-length (suc i) ls)
    where
      go : (b : Bool) → length (numbers test (suc i) ls) ≡ length (chosen test ls)
          → length (cond b (i ∷ numbers test (suc i) ls) (numbers test (suc i) ls)) ≡ length (cond b (l ∷ chosen test ls) (chosen test ls))
      go true h = ap suc h
      go false h = h

  -- of all lines, so of those from i on
  pub number-line : (all : List Bytes) (i : ℕ) (ls : List Bytes) → ((j : ℕ) → get_or ls j [] ≡ get_or all (i + j) [])
      → (k : ℕ) → k < length (numbers test i ls) → get_or all (get_or (numbers test i ls) k 0) [] ≡ get_or (chosen test ls) k []
  unfolding numbers chosen
  number-line all i [] same k h = absurd (omega arith)
  number-line all i (l ∷ ls) same k h =
      go (test l) k (number-line all (suc i) ls (λ j. same (suc j) ∙ rw (add-suc, suc-add))) h
    where
      go : (b : Bool) (k : ℕ)
          → ((k : ℕ) → k < length (numbers test (suc i) ls) → get_or all (get_or (numbers test (suc i) ls) k 0) [] ≡ get_or (chosen test ls) k [])
          → k < length (cond b (i ∷ numbers test (suc i) ls) (numbers test (suc i) ls))
          → get_or all (get_or (cond b (i ∷ numbers test (suc i) ls) (numbers test (suc i) ls)) k 0) [] ≡ get_or (cond b (l ∷ chosen test ls) (chosen test ls)) k []
      go true zero g h = sym (rw add-zero at (same 0))
      go true (suc k) g h = g k (omega arith)
      go false k g h = g k h

-- ---- the answer and the buffer
accepted-lines : (t : Bytes) (time : ℕ) → Accepted (lines t) → committed_lines t time ≡ lines_listed time (lines t)
unfolding committed_lines
accepted-lines t time h = rw h

found-is : (t : Bytes) (time : ℕ) → Accepted (lines t) → (committed_answer t time).found ≡ length (chosen (listed time (lines t)) (lines t))
unfolding committed_answer
found-is t time h = rw (accepted-lines t time h) (numbers-length (listed time (lines t)) 0 (lines t))

name-is : (t : Bytes) (time : ℕ) (out : List ℕ) → Accepted (lines t) → (i : ℕ)
    → i < min (length (chosen (listed time (lines t)) (lines t))) (length out)
    → name_at t (laid (committed_lines t time) out) i ≡ name_of (get_or (chosen (listed time (lines t)) (lines t)) i [])
name-is t time out h i l =
    let test = listed time (lines t) in
    let n = numbers-length test 0 (lines t) in
    let first : get_or (laid (numbers test 0 (lines t)) out) i 0 ≡ get_or (numbers test 0 (lines t)) i 0 =
    laid-at (numbers test 0 (lines t)) out i (omega arith) in
    rw (accepted-lines t time h, first, number-line test (lines t) 0 (lines t) (λ j. rw zero-add) i (omega arith))

-- "Between two accepted listings that differ only in folders that don't count, asked with one t and equal room, the names at
-- the lines found are equal, in order"
pub same_names : (a : Bytes) (time : ℕ) (out : List ℕ) → AlikeListings a time (committed_answer a time).found (laid (committed_lines a time) out)
same_names a time out p b q h other room = record {
  found = found-is a time p ∙ ap length lines_same ∙ sym (found-is b time q);
  names = λ i l.
      let la : i < min (length (chosen (listed time (lines a)) (lines a))) (length out) = rw (← found-is a time p, ← laid-length (committed_lines a time) out) l in
      let lb : i < min (length (chosen (listed time (lines b)) (lines b))) (length other) = rw (← lines_same, ← room, laid-length (committed_lines a time) out) la in
      name-is a time out p i la ∙ ap (λ (x : List Bytes). name_of (get_or x i [])) lines_same ∙ sym (name-is b time other q i lb);
}
  where
    lines_same : chosen (listed time (lines a)) (lines a) ≡ chosen (listed time (lines b)) (lines b)
    lines_same = alike time (lines a) (lines b) h

-- of any answer and any buffer that are those
pub same-names-of : (a : Bytes) (time : ℕ) (out : List ℕ) {r : Committed} {after : List ℕ} → r ≡ committed_answer a time
    → after ≡ laid (committed_lines a time) out → AlikeListings a time r.found after
same-names-of a time out e f = rw (e, f) (same_names a time out)
