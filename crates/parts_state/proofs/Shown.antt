-- Which of its answers is the answer of a body in parts? The footer's, the first that is shown, opening's, or 2
-- (`say-footer`, `say-shown`, `say-open`, `say-other`). The counts that are there say nothing where they are right
-- (`counts-none`), and the first wrong one decides (`count-stops`).
-- Assumes nothing.
use mathlib.Core.Path.{◌≡◌, refl}
use mathlib.Core.Bool.{Bool, true, false, not, ◌&&◌}
use mathlib.Core.List.{List}
use Prim.Native.Nat.{ℕ, suc, ◌+◌, ◌-◌, ◌≤◌, ◌<◌, min}
use native.Mathlib.Nat.{zero-add}
use native.Mathlib.Omega.{arith}
use lib.Dec.{leb, eqb}
use lib.ListN.{length}
use borrow.Author.Tests.{eq-eqb, ne_eqb, le-leb, lt-leb, le-ltb, leb-true}
use Rattle.answers.specs.Refusals as refusals
use Rattle.answers.specs.Checks.{check, otherwise, first}
use Rattle.answers.specs.declared.Refusal.{Refusal}
use Rattle.answers.proofs.Checks.{turn, all-clear, each-add, first-none, last}
use Rattle.description.specs.declared.Description.{Description}
use Rattle.description.specs.Description.{bytes_of_box}
use Rattle.tree.specs.Shape.{boxes, height, levels, level_start}
use Rattle.footer.specs.Fields.{tiles_of}
use Rattle.footer.specs.Checks.{footer_refusal}
use Rattle.rtree.specs.declared.Opened.{Opened}
use Rattle.rtree.specs.Body.{fanout_of, count_place, stored_count}
use Rattle.rtree.specs.Opening.{open_answer, refused_in}
use Rattle.parts_state.specs.Parts.{front_shown, count_shown, counts_shown, shown_refusal, which_of, parts_answer, parts_answer_by}

module _ (d : Description) (F : ℕ) (footer : List ℕ) (stated room : ℕ) (body : List ℕ) where
  abbrev have : ℕ
  have = min (length body) stated

  abbrev pub shown : Refusal
  shown = shown_refusal (tiles_of d footer) (bytes_of_box d) have body stated room

  abbrev answer : Opened
  answer = parts_answer d F footer stated room body

  pub say-footer : ((footer_refusal d F footer).number ≡ 0 → ⊥) → answer ≡ refused_in 0 (footer_refusal d F footer)
  unfolding parts_answer_by
  say-footer h = rw (ne_eqb (footer_refusal d F footer).number 0 h)

  module _ (ok : (footer_refusal d F footer).number ≡ 0) where
    pub say-shown : (shown.number ≡ 0 → ⊥) → answer ≡ refused_in (which_of shown.number) shown
    unfolding parts_answer_by
    say-shown h = rw (eq-eqb (footer_refusal d F footer).number 0 ok, ne_eqb shown.number 0 h)

    module _ (none : shown.number ≡ 0) where
      pub say-open : length body ≡ stated → answer ≡ open_answer d F footer body
      unfolding parts_answer_by
      say-open h =
          rw (
            eq-eqb (footer_refusal d F footer).number 0 ok,
            eq-eqb shown.number 0 none,
            eq-eqb (length body) stated h,
          )

      pub say-other : (length body ≡ stated → ⊥) → answer ≡ refused_in 1 (refusals.refusal refusals.bytes have)
      unfolding parts_answer_by
      say-other h =
          rw (
            eq-eqb (footer_refusal d F footer).number 0 ok,
            eq-eqb shown.number 0 none,
            ne_eqb (length body) stated h,
          )

first_alone : (rs : List Refusal) → otherwise (first rs) refusals.none ≡ first rs
unfolding first
first_alone rs = last (first rs) (first-none rs)

module _ (stated room have f l : ℕ) where
  -- from eight bytes on, how many there are does not matter
  pub front-have : (right whole inner : ℕ) → 8 ≤ have
      → front_shown stated room have f l right whole inner ≡ front_shown stated room 8 f l right whole inner
  unfolding front_shown
  front-have right whole inner h = rw (le-leb 4 have (omega arith), le-leb 8 have h)

  -- before the fourth nothing is shown
  pub front-none : (right whole inner : ℕ) → 8 ≤ stated → have < 4
      → front_shown stated room have f l right whole inner ≡ refusals.none
  unfolding front_shown first
  front-none right whole inner enough h =
      rw (le-ltb stated 8 enough, lt-leb 4 have h, lt-leb 8 have (omega arith))

  -- before the eighth the level number is not there
  pub front-short : (other right whole inner : ℕ) → have < 8
      → front_shown stated room have f l right whole inner ≡ front_shown stated room have f other right whole inner
  unfolding front_shown
  front-short other right whole inner h = rw (lt-leb 8 have h)

  -- nothing after them
  pub front-alone : (right whole inner : ℕ)
      → otherwise (front_shown stated room have f l right whole inner) refusals.none ≡ front_shown stated room have f l right whole inner
  unfolding front_shown
  front-alone right whole inner = first_alone _

module _ (n b have : ℕ) (body : List ℕ) where
  abbrev f : ℕ
  f = fanout_of body

  abbrev Right : ℕ → Type 0
  Right i = stored_count n b body i ≡ boxes f n i

  count-right : (i : ℕ) → (level_start f n b i ≤ have → Right i) → count_shown n b have body i ≡ refusals.none
  count-right i h = go (leb (level_start f n b i) have) refl
    where
      go : (t : Bool) → leb (level_start f n b i) have ≡ t
          → check (t && not (eqb (stored_count n b body i) (boxes f n i))) refusals.levels (count_place f n b i) ≡ refusals.none
      go true e = rw (eq-eqb _ _ (h (leb-true _ _ e)))
      go false e = refl

  pub counts-none : ((i : ℕ) → i ≤ height f n → level_start f n b i ≤ have → Right i)
      → counts_shown n b have body ≡ refusals.none
  unfolding counts_shown
  counts-none h =
      all-clear (λ l. count_shown n b have body (height f n - l)) 0 (levels f n)
      (λ l low high. count-right (height f n - l) (h (height f n - l) (omega arith)))

  -- the first wrong one
  module _ (j : ℕ) (near : j ≤ height f n) (before : (i : ℕ) → i ≤ height f n → j < i → Right i)
      (there : level_start f n b j ≤ have) (wrong : Right j → ⊥) where
    abbrev at : ℕ → Refusal
    at l = count_shown n b have body (height f n - l)

    in_two : levels f n ≡ (height f n - j) + suc j
    unfolding levels
    in_two = omega arith

    pub count-stops : counts_shown n b have body ≡ refusals.refusal refusals.levels (count_place f n b j)
    unfolding counts_shown
    count-stops =
        let m = height f n - j in
        let here : height f n - m ≡ j = omega arith in
        let clear = all-clear at 0 m (λ l low high.
        count-right (height f n - l) (λ _. before (height f n - l) (omega arith) (omega arith))) in
        let stop : at m ≡ refusals.refusal refusals.levels (count_place f n b j) =
        rw (here, le-leb _ _ there, ne_eqb _ _ wrong) in
        rw (in_two, each-add at 0 m (suc j), clear, zero-add, turn at m (suc j) (omega arith), stop)
