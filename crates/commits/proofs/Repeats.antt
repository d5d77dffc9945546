-- A record is repeated whole where its kind and its name are.
-- Assumes nothing.
use mathlib.Core.Path.{◌≡◌, refl, ap, sym, ◌∙◌}
use mathlib.Core.Bool.{Bool, true, false, cond, ◌&&◌, false≢true, true≢false}
use mathlib.Core.List.{List, ◌∷◌, ◌++◌}
use Prim.Native.Nat.{ℕ, zero, suc, ◌≤◌, ◌<◌}
use native.Mathlib.Omega.{arith}
use lib.Dec.{eqb, leb, ltb}
use lib.ListN.{length, take}
use borrow.Author.Tests.{eqb-true, eq-eqb, ltb-true}
use Rattle.text.specs.Text.{Bytes, tab, parts, part, same}
use Rattle.text.proofs.Compared.{same_true, same_refl}
use Rattle.text.proofs.Back.{two-parts}
use Rattle.commits.specs.Records.{folder_text, wrt_text, con_text, ign_text, kind_number, kind_of, name_of, is_name, is_record}
use Rattle.commits.specs.Committed.{some, bears, names, line_in}
use Rattle.commits.proofs.Chains.{some_more}

and_both : (a b : Bool) → (a && b) ≡ true → (a ≡ true) × (b ≡ true)
and_both true b e = (refl, e)
and_both false b e = absurd (false≢true e)

-- the text of a kind
kind_text : ℕ → Bytes
kind_text k = cond (eqb k 0) folder_text (cond (eqb k 1) wrt_text (cond (eqb k 2) con_text ign_text))

kind-text : (k : Bytes) → kind_number k < 4 → k ≡ kind_text (kind_number k)
unfolding kind_number kind_text
kind-text k h = go (same k folder_text) (same k wrt_text) (same k con_text) (same k ign_text) refl refl refl refl h
  where
    go : (a b c d : Bool) → same k folder_text ≡ a → same k wrt_text ≡ b → same k con_text ≡ c → same k ign_text ≡ d
        → cond a 0 (cond b 1 (cond c 2 (cond d 3 4))) < 4
        → k ≡ kind_text (cond a 0 (cond b 1 (cond c 2 (cond d 3 4))))
    go true b c d e f g i h = same_true k folder_text e
    go false true c d e f g i h = same_true k wrt_text f
    go false false true d e f g i h = same_true k con_text g
    go false false false true e f g i h = same_true k ign_text i
    go false false false false e f g i h = absurd (omega arith)

-- what a record is made of
module _ (l : Bytes) (h : is_record l ≡ true) where
  is-two : length (parts tab l) ≡ 2
  unfolding is_record
  is-two =
      eqb-true (length (parts tab l)) 2
      (and_both (eqb (length (parts tab l)) 2) (ltb (kind_of l) 4 && is_name (name_of l))
      (and_both (leb (length l) 255) (eqb (length (parts tab l)) 2 && (ltb (kind_of l) 4 && is_name (name_of l))) h).1).0

  is-kind : kind_of l < 4
  unfolding is_record
  is-kind =
      ltb-true (kind_of l) 4
      (and_both (ltb (kind_of l) 4) (is_name (name_of l))
      (and_both (eqb (length (parts tab l)) 2) (ltb (kind_of l) 4 && is_name (name_of l))
      (and_both (leb (length l) 255) (eqb (length (parts tab l)) 2 && (ltb (kind_of l) 4 && is_name (name_of l))) h).1).1).0

  record_is : l ≡ kind_text (kind_of l) ++ tab ∷ name_of l
  unfolding kind_of name_of
  record_is = two-parts tab l is-two ∙ ap (λ (x : Bytes). x ++ tab ∷ part tab 1 l) (kind-text (part tab 0 l) is-kind)

module _ (a b : Bytes) (p : is_record a ≡ true) (q : is_record b ≡ true) where
  from_parts : bears (kind_of a) (name_of a) b ≡ true → a ≡ b
  from_parts e =
      let both = and_both (eqb (kind_of b) (kind_of a)) (same (name_of b) (name_of a)) e in
      let k : kind_of b ≡ kind_of a = eqb-true (kind_of b) (kind_of a) both.0 in
      let n : name_of b ≡ name_of a = same_true (name_of b) (name_of a) both.1 in
      record_is a p ∙ rw (← k, ← n) (sym (record_is b q))

  pub same-record : same a b ≡ bears (kind_of a) (name_of a) b
  same-record = go (same a b) (bears (kind_of a) (name_of a) b) refl refl
    where
      go : (s t : Bool) → same a b ≡ s → bears (kind_of a) (name_of a) b ≡ t → s ≡ t
      go true true e f = refl
      go false false e f = refl
      go true false e f =
          let z : a ≡ b = same_true a b e in
          absurd (true≢false (sym (rw (z, eq-eqb (kind_of b) (kind_of b) refl, same_refl (name_of b))) ∙ f))
      go false true e f =
          let z : a ≡ b = from_parts f in
          absurd (false≢true (sym e ∙ rw z (same_refl b)))

pub repeats : (ls : List Bytes) (l : Bytes) → is_record l ≡ true → (n : ℕ) → n ≤ length ls → ((i : ℕ) → i < n → is_record (line_in ls i) ≡ true)
    → some (same l) (take n ls) ≡ names (kind_of l) (take n ls) (name_of l)
unfolding names some
repeats ls l p zero h all = refl
repeats ls l p (suc i) h all =
    some_more (same l) ls i (omega arith)
    ∙ rw (repeats ls l p i (omega arith) (λ j m. all j (omega arith)), same-record l (line_in ls i) p (all i (omega arith)))
    (sym (some_more (bears (kind_of l) (name_of l)) ls i (omega arith)))
