-- 21 is given exactly where it is due. Where all checks before it pass and the work buffer is short, the answer is 21
-- (`due-said`). And where the answer's number is 21 they passed and it is short (`work-due`, `said-due`): no check of a
-- footer or of a body has that number (`footer-other`, `body-other`), and what is shown has it only there
-- (`shown-due`). So where the blocks add up to the stated length and 21 isn't due, opening the whole is answered
-- (`undue-whole`).
-- Assumes nothing.
use mathlib.Core.Path.{◌≡◌, refl, ap, ◌∙◌}
use mathlib.Core.Bool.{Bool, true, false, not, ◌&&◌}
use mathlib.Core.List.{List}
use Prim.Native.Nat.{ℕ, ◌-◌, ◌≤◌, min}
use native.Mathlib.Omega.{arith}
use lib.Dec.{ltb, leb, eqb}
use lib.ListN.{length}
use borrow.Author.Tests.{eq-eqb, le-leb, lt-leb, le-ltb, lt-ltb, leb-true, leb-false, ltb-true, ltb-false, eqb-true, eqb-false, not-false}
use Rattle.answers.specs.Refusals as refusals
use Rattle.answers.specs.Checks.{first}
use Rattle.answers.specs.declared.Refusal.{Refusal}
use Rattle.answers.proofs.Others.{Other, either-other, next-other, last-other, none_other, check-other, each-other}
use Rattle.description.specs.declared.Description.{Description}
use Rattle.description.specs.Description.{bytes_of_box}
use Rattle.description.specs.Limits.{least_fanout, most_fanout, outside}
use Rattle.description.proofs.Limits.{within, not-outside}
use Rattle.description.proofs.Others.{limits-other, retired-other}
use Rattle.boxes.proofs.Others.{ranges-other, box-other}
use Rattle.tree.specs.Shape.{height, levels, body_bytes}
use Rattle.footer.specs.Fields.{tiles_of, domain_bytes, number_outside, no_flag, flag_is, file_offsets_refusal}
use Rattle.footer.specs.Checks.{footer_refusal, entry_refusal}
use Rattle.rtree.specs.declared.Opened.{Opened}
use Rattle.rtree.specs.Body.{fanout_of, levels_of, shape_refusal}
use Rattle.rtree.specs.Opening.{root_refusal, inner_refusal, level_refusal, boxes_refusal, body_refusal, refused_in, open_answer, open_answer_by}
use Rattle.rtree.proofs.Others.{shape-other}
use Rattle.parts_state.specs.Parts.{inner_bytes, front_shown, count_shown, counts_shown, shown_refusal, parts_answer}
use Rattle.parts_state.specs.Took.{Due}
use Rattle.parts_state.proofs.Shown.{shown, say-footer, say-shown, say-open, say-other}
use Rattle.parts_state.proofs.Whole.{whole}

-- no check of a footer says 21
offsets-other : (footer : List ℕ) (limit count at : ℕ) → Other refusals.work (file_offsets_refusal footer limit count at)
unfolding file_offsets_refusal
offsets-other footer limit count at = each-other _ refl _ 0 count (λ i low high. search (check-other))

footer-other : (d : Description) (F : ℕ) (footer : List ℕ) → Other refusals.work (footer_refusal d F footer)
unfolding entry_refusal number_outside no_flag flag_is
footer-other d F footer =
    search (next-other, none_other, check-other, last-other, limits-other, retired-other, ranges-other, offsets-other) depth 60

-- and none of a body
body-other : (d : Description) (n : ℕ) (domain body : List ℕ) → Other refusals.work (body_refusal d n domain body)
unfolding body_refusal boxes_refusal root_refusal level_refusal inner_refusal
body-other d n domain body =
    either-other _ (shape_refusal n (bytes_of_box d) body) _ (shape-other _ refl refl refl refl n (bytes_of_box d) body)
    (either-other _ (root_refusal d n body domain) _ (box-other _ refl refl refl refl _ _ _ _ _ _ refl)
    (each-other _ refl _ 0 (height (fanout_of body) n)
    (λ l low high. each-other _ refl _ 0 _ (λ k from to. box-other _ refl refl refl refl _ _ _ _ _ _ refl))))

module _ (d : Description) (F : ℕ) (footer : List ℕ) (stated room : ℕ) (got : List ℕ) where
  abbrev n : ℕ
  n = tiles_of d footer

  abbrev b : ℕ
  b = bytes_of_box d

  abbrev f : ℕ
  f = fanout_of got

  abbrev have : ℕ
  have = min (length got) stated

  abbrev told : Refusal
  told = shown d F footer stated room got

  abbrev short : Opened
  short = refused_in 0 (refusals.refusal refusals.work 0)

  levels-shown : Bool
  levels-shown = leb 8 have && not (eqb (levels_of got) (levels f n))

  no-levels : Due d F footer stated room got → levels-shown ≡ false
  unfolding levels-shown
  no-levels h = go (leb 8 have) refl
    where
      go : (t : Bool) → leb 8 have ≡ t → t && not (eqb (levels_of got) (levels f n)) ≡ false
      go true e = rw (eq-eqb _ _ (h.leveled (omega (arith, leb-true 8 have e))))
      go false e = refl

  pub due-said : Due d F footer stated room got → parts_answer d F footer stated room got ≡ short
  unfolding shown_refusal front_shown first levels-shown
  due-said h =
      let known : 4 ≤ have = omega (arith, h.known, h.enough) in
      let said : told ≡ refusals.refusal refusals.work 0 =
      rw (
        le-ltb stated 8 h.enough,
        le-leb 4 have known,
        not-outside least_fanout most_fanout f h.least h.most,
        no-levels h,
        eq-eqb stated (body_bytes f n b) h.whole,
        lt-ltb room (inner_bytes f n b) h.short,
      ) in
      say-shown d F footer stated room got h.passed (rw said (λ z. omega arith)) ∙ rw said

  counts-other : (counts_shown n b have got).number ≡ refusals.work → ⊥
  unfolding counts_shown
  counts-other =
      eqb-false _ _ (each-other _ refl (λ l. count_shown n b have got (height f n - l)) 0 (levels f n) (λ l low high. search (check-other))).apart

  shown-due : (footer_refusal d F footer).number ≡ 0 → told.number ≡ refusals.work → Due d F footer stated room got
  unfolding shown_refusal front_shown first levels-shown
  shown-due ok z = small (ltb stated 8) refl
    where
      room-is : (t : Bool) → ltb room (inner_bytes f n b) ≡ t → ltb stated 8 ≡ false → leb 4 have ≡ true
          → outside least_fanout most_fanout f ≡ false → levels-shown ≡ false → eqb stated (body_bytes f n b) ≡ true
          → Due d F footer stated room got
      room-is false r a k o l w = absurd (counts-other (rw (a, k, o, l, w, r) at z))
      room-is true r a k o l w =
          let g = within least_fanout most_fanout f o in
          let known = leb-true 4 have k in
          let enough = ltb-false stated 8 a in
          record {
            passed = ok;
            enough = enough;
            known = omega arith;
            least = g.0;
            most = g.1;
            leveled = λ h. right l (omega arith);
            whole = eqb-true _ _ w;
            short = ltb-true _ _ r;
          }
        where
          right : levels-shown ≡ false → 8 ≤ have → levels_of got ≡ levels f n
          right l h = eqb-true _ _ (not-false _ (rw (le-leb 8 have h) at l))

      whole_is : (t : Bool) → eqb stated (body_bytes f n b) ≡ t → ltb stated 8 ≡ false → leb 4 have ≡ true
          → outside least_fanout most_fanout f ≡ false → levels-shown ≡ false → Due d F footer stated room got
      whole_is false w a k o l = absurd (omega (arith, rw (a, k, o, l, w) at z))
      whole_is true w a k o l = room-is (ltb room (inner_bytes f n b)) refl a k o l w

      levels-are : (t : Bool) → levels-shown ≡ t → ltb stated 8 ≡ false → leb 4 have ≡ true
          → outside least_fanout most_fanout f ≡ false → Due d F footer stated room got
      levels-are true l a k o = absurd (omega (arith, rw (a, k, o, l) at z))
      levels-are false l a k o = whole_is (eqb stated (body_bytes f n b)) refl a k o l

      fanout-is : (t : Bool) → outside least_fanout most_fanout f ≡ t → ltb stated 8 ≡ false → leb 4 have ≡ true → Due d F footer stated room got
      fanout-is true o a k = absurd (omega (arith, rw (a, k, o) at z))
      fanout-is false o a k = levels-are levels-shown refl a k o

      known_is : (t : Bool) → leb 4 have ≡ t → ltb stated 8 ≡ false → Due d F footer stated room got
      known_is false k a =
          let fewer : leb 8 have ≡ false = lt-leb 8 have (omega (arith, leb-false 4 have k)) in
          absurd (counts-other (rw (a, k, fewer) at z))
      known_is true k a = fanout-is (outside least_fanout most_fanout f) refl a k

      small : (t : Bool) → ltb stated 8 ≡ t → Due d F footer stated room got
      small true a = absurd (omega (arith, rw a at z))
      small false a = known_is (leb 4 have) refl a

  open-other : (footer_refusal d F footer).number ≡ 0 → (open_answer d F footer got).number ≡ refusals.work → ⊥
  unfolding open_answer_by
  open-other ok z = go (eqb (body_refusal d n (domain_bytes d footer) got).number 0) refl
    where
      go : (t : Bool) → eqb (body_refusal d n (domain_bytes d footer) got).number 0 ≡ t → ⊥
      go true q = omega (arith, rw (eq-eqb _ 0 ok, q) at z)
      go false q = eqb-false _ _ (body-other d n (domain_bytes d footer) got).apart (rw (eq-eqb _ 0 ok, q) at z)

  -- the number alone tells it
  pub work-due : (parts_answer d F footer stated room got).number ≡ refusals.work → Due d F footer stated room got
  work-due z = go (eqb (footer_refusal d F footer).number 0) refl (eqb told.number 0) refl (eqb (length got) stated) refl
    where
      go : (t : Bool) → eqb (footer_refusal d F footer).number 0 ≡ t → (u : Bool) → eqb told.number 0 ≡ u
          → (v : Bool) → eqb (length got) stated ≡ v → Due d F footer stated room got
      go false e u q v l = absurd (eqb-false _ _ (footer-other d F footer).apart (rw (say-footer d F footer stated room got (eqb-false _ 0 e)) at z))
      go true e false q v l = shown-due (eqb-true _ 0 e) (rw (say-shown d F footer stated room got (eqb-true _ 0 e) (eqb-false _ 0 q)) at z)
      go true e true q true l =
          let opens = say-open d F footer stated room got (eqb-true _ 0 e) (eqb-true _ 0 q) (eqb-true _ _ l) in
          absurd (open-other (eqb-true _ 0 e) (rw opens at z))
      go true e true q false l =
          let other = say-other d F footer stated room got (eqb-true _ 0 e) (eqb-true _ 0 q) (eqb-false _ _ l) in
          absurd (omega (arith, rw other at z))

  pub said-due : parts_answer d F footer stated room got ≡ short → Due d F footer stated room got
  said-due e = work-due (ap (λ (x : Opened). x.number) e)

  -- Where the blocks add up to the stated length and 21 isn't due, opening the whole.
  pub undue-whole : (Due d F footer stated room got → ⊥) → length got ≡ stated
      → parts_answer d F footer stated room got ≡ open_answer d F footer got
  undue-whole undue all = whole d F footer stated room got all (λ z. undue (work-due z))
