-- A box is without a fault and inside another where each of its dimensions is sound and inside the other's; where that fails, either the ranges
-- have a fault or the box is not inside. And a row of boxes, as a loop goes through it: the boxes before a place said nothing.
-- Assumes nothing.
use mathlib.Core.Path.{◌≡◌, refl, sym, ap, ◌∙◌}
use mathlib.Core.Bool.{Bool, true, false, true≢false}
use mathlib.Core.List.{List}
use Prim.Native.Nat.{ℕ, suc, ◌+◌, ◌-◌, ◌/◌, ◌≤◌, ◌<◌}
use native.Mathlib.Nat.{le-div_iff_mul-le, div-lt_iff_lt-mul, div-zero, suc-mul}
use native.Mathlib.Decide.{dec_lt}
use native.Mathlib.Omega.{arith}
use lib.ListN.{length, take, drop}
use Rattle.answers.specs.Refusals.{none, refusal}
use Rattle.answers.specs.Checks.{otherwise, each}
use Rattle.answers.specs.declared.Refusal.{Refusal}
use Rattle.answers.proofs.Runs.{Each, over-start}
use Rattle.answers.proofs.Checks.{halt, each-clear, all-clear, none_left, past-left, stop-left}
use Rattle.description.specs.declared.Dimension.{Dimension}
use Rattle.description.specs.Description.{kind_at, side_start}
use Rattle.description.proofs.Tests.{both}
use Rattle.ranges.specs.declared.Range.{Range}
use Rattle.ranges.specs.Ranges.{inside}
use Rattle.verdicts.specs.declared.Verdict.{Verdict}
use Rattle.verdicts.specs.declared.Verdict.TheVariants.{Sound, Infinite, InfiniteReversed, NotANumber, Reversed}
use Rattle.verdicts.specs.Verdicts.{verdict_at, stored_refusal}
use Rattle.boxes.specs.Boxes.{all, side_at, ranges_refusal, box_inside, box_refusal}
use Rattle.rows.specs.Code.Row.{is_sound, sound_inside, row_box, row_refusal, RowAt}
use Rattle.boxes.proofs.Walking.{told_at}
use Rattle.boxes.proofs.Boxes.{all-says, all-when}

-- a verdict says nothing where it is sound, and only there
pub sound_none : (v : Verdict) (place : ℕ) → is_sound v ≡ true → stored_refusal v place ≡ none
sound_none (Sound r) place h = refl
sound_none (Infinite r) place h = absurd (true≢false (sym h))
sound_none InfiniteReversed place h = absurd (true≢false (sym h))
sound_none NotANumber place h = absurd (true≢false (sym h))
sound_none Reversed place h = absurd (true≢false (sym h))

-- no other verdict is
pub other_unsound : (v : Verdict) → ((r : Range) → v ≡ Sound r → ⊥) → false ≡ is_sound v
other_unsound (Sound r) other = absurd (other r refl)
other_unsound (Infinite r) other = refl
other_unsound InfiniteReversed other = refl
other_unsound NotANumber other = refl
other_unsound Reversed other = refl

pub none-sound : (v : Verdict) (place : ℕ) → (stored_refusal v place).number ≡ 0 → is_sound v ≡ true
none-sound (Sound r) place h = refl
none-sound (Infinite r) place h = absurd (omega arith)
none-sound InfiniteReversed place h = absurd (omega arith)
none-sound NotANumber place h = absurd (omega arith)
none-sound Reversed place h = absurd (omega arith)

module _ (kinds : List Dimension) (m : ℕ) (bytes outer : List ℕ) (number start : ℕ) where
  abbrev judged : ℕ → Verdict
  judged i = verdict_at (kind_at kinds i) bytes (side_start kinds i)

  pub within-clear : all (sound_inside kinds bytes outer) 0 m ≡ true → box_refusal kinds m bytes outer number start ≡ none
  unfolding box_refusal ranges_refusal box_inside
  within-clear h =
      let each_part : Each (λ i. (is_sound (judged i) ≡ true) × (inside (side_at kinds bytes i) (side_at kinds outer i) ≡ true)) 0 m =
      λ i a l. both (is_sound (judged i)) _ (all-says _ 0 m h i a l) in
      let ranges : each (told_at kinds bytes start) 0 m ≡ none =
      all-clear (told_at kinds bytes start) 0 m (λ i a l. sound_none (judged i) (start + side_start kinds i) (each_part i a l).0) in
      let lies : all (λ i. inside (side_at kinds bytes i) (side_at kinds outer i)) 0 m ≡ true = all-when _ 0 m (λ i a l. (each_part i a l).1) in
      rw (ranges, lies)

  pub within-fault : all (sound_inside kinds bytes outer) 0 m ≡ false
      → box_refusal kinds m bytes outer number start ≡ otherwise (ranges_refusal kinds m bytes start) (refusal number start)
  unfolding box_refusal ranges_refusal box_inside
  within-fault h = go (dec_lt 0 (ranges_refusal kinds m bytes start).number)
    where
      apart : (ranges_refusal kinds m bytes start).number ≡ 0 → (t : Bool) → box_inside kinds m bytes outer ≡ t → box_inside kinds m bytes outer ≡ false
      apart clear true e =
          absurd (
          true≢false
          (sym (all-when (sound_inside kinds bytes outer) 0 m
          (λ i a l.
          rw (none-sound (judged i) _ (each-clear (told_at kinds bytes start) 0 m clear i a l), all-says _ 0 m e i a l)))
          ∙ h)
          )
      apart clear false e = e

      go : Dec (0 < (ranges_refusal kinds m bytes start).number)
          → box_refusal kinds m bytes outer number start ≡ otherwise (ranges_refusal kinds m bytes start) (refusal number start)
      go (yes z) =
          let some : (ranges_refusal kinds m bytes start).number ≡ 0 → ⊥ = λ e. omega arith in
          halt (ranges_refusal kinds m bytes start) _ some ∙ sym (halt (ranges_refusal kinds m bytes start) _ some)
      go (no z) =
          let clear : (ranges_refusal kinds m bytes start).number ≡ 0 = omega arith in
          rw (apart clear (box_inside kinds m bytes outer) refl)

pub no_row : (kinds : List Dimension) (m : ℕ) (row outer : List ℕ) (number : ℕ) → side_start kinds m ≡ 0 → none ≡ row_refusal kinds m row outer number
unfolding row_refusal
no_row kinds m row outer number e = sym (none_left _ 0 _ (rw (e, div-zero) (omega arith)))

module _ {kinds : List Dimension} {m : ℕ} {row outer : List ℕ} {number : ℕ} where
  pub row-start : RowAt kinds m row outer number 0
  unfolding row_refusal
  row-start = record {
    index = 0;
    place = omega arith;
    there = omega arith;
    same = over-start otherwise none (row_box kinds m row outer number) _;
  }

  module _ {at : ℕ} (r : RowAt kinds m row outer number at) (some : 0 < side_start kinds m) where
    abbrev b : ℕ
    b = side_start kinds m

    pub row_done : length row - at < b → none ≡ row_refusal kinds m row outer number
    row_done h =
        let end : length row / b < suc r.index =
        (div-lt_iff_lt-mul some).1 (rw suc-mul (omega (arith, r.place, r.there))) in
        sym (r.same ∙ none_left _ _ _ (omega arith))

    module _ (more : b ≤ length row - at) where
      next : r.index < length row / b
      next = (le-div_iff_mul-le some).1 (rw suc-mul (omega (arith, r.place, r.there)))

      -- the box here, as it is lent
      abbrev lent : List ℕ
      lent = take (at + b - at) (drop at row)

      here : box_refusal kinds m lent outer number at ≡ row_box kinds m row outer number r.index
      here =
          let size : at + b - at ≡ b = omega arith in
          rw (size, r.place)

      row-stop : {s : Refusal} → s ≡ box_refusal kinds m lent outer number at → (s.number ≡ 0 → ⊥) → s ≡ row_refusal kinds m row outer number
      row-stop e h = sym (r.same ∙ stop-left (row_box kinds m row outer number) r.index _ _ next (e ∙ here) h)

      row_on : {s : Refusal} → s ≡ box_refusal kinds m lent outer number at → s.number ≡ 0 → RowAt kinds m row outer number (at + b)
      row_on e h = record {
        index = r.index + 1;
        place = rw r.place (omega arith);
        there = omega (arith, r.there);
        same = r.same ∙ past-left (row_box kinds m row outer number) r.index _ _ next (e ∙ here) h;
      }

      pub clear-passes : all (sound_inside kinds lent outer) 0 m ≡ true → RowAt kinds m row outer number (at + b)
      clear-passes h = row_on (sym (within-clear kinds m lent outer number at h)) refl

      -- the box here is not sound and inside: it has this fault, which refuses or does not
      module _ (apart : all (sound_inside kinds lent outer) 0 m ≡ false) where
        abbrev fault : Refusal
        fault = otherwise (ranges_refusal kinds m lent at) (refusal number at)

        same-fault : fault ≡ box_refusal kinds m lent outer number at
        same-fault = sym (within-fault kinds m lent outer number at apart)

        pub fault-stops : {s : Refusal} → (s ≡ fault) × (fault.number ≡ 0 → ⊥) → s ≡ row_refusal kinds m row outer number
        fault-stops e = row-stop (e.0 ∙ same-fault) (λ h. e.1 (ap (λ (x : Refusal). x.number) (sym e.0) ∙ h))

        pub fault-passes : fault.number ≡ 0 → RowAt kinds m row outer number (at + b)
        fault-passes = row_on same-fault
