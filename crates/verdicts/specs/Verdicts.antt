-- The verdict on a range: what its ends are, and which refusal comes of that.
-- Assumes nothing.
use Rattle.std.specs.Prelude.{ℕ, Bool, not, ◌&&◌, ◌||◌, cond, List, ltb}
use Rattle.answers.specs.Refusals.{refusal, none, not_a_number, reversed, infinite}
use Rattle.answers.specs.declared.Refusal.{Refusal}
use Rattle.description.specs.declared.Kind.{Kind}
use Rattle.description.specs.Kinds.{key, is_infinite}
use Rattle.ranges.specs.declared.Range.{Range}
use Rattle.ranges.specs.Ranges.{Ends, ends_at, range_at, has_nan}
use Rattle.verdicts.specs.declared.Verdict.{Verdict}
use Rattle.verdicts.specs.declared.Verdict.TheVariants.{Sound, Infinite, InfiniteReversed, NotANumber, Reversed}

-- a range end is infinite
unfoldable pub has_infinity : Ends → Bool
has_infinity e = is_infinite e.kind e.low || is_infinite e.kind e.high

-- both ends are finite
abbrev pub is_finite : Ends → Bool
is_finite e = not (has_nan e) && not (has_infinity e)

-- minimum above maximum
unfoldable pub is_reversed : Ends → Bool
is_reversed e = ltb (key e.kind e.high) (key e.kind e.low)

-- the verdict on a range: NaN before all else; then whether an end is infinite, and whether it is reversed
unfoldable pub verdict : Ends → Range → Verdict
verdict e r =
    cond (has_nan e) NotANumber
    (cond (has_infinity e) (cond (is_reversed e) InfiniteReversed (Infinite r)) (cond (is_reversed e) Reversed (Sound r)))

-- the same by the ends' order, by a NaN and by an infinity
abbrev pub verdict_on : Range → Bool → Bool → Bool → Verdict
verdict_on r ordered nan infinite =
    cond ordered (cond infinite (Infinite r) (Sound r)) (cond nan NotANumber (cond infinite InfiniteReversed Reversed))

-- of the range of a kind at a place of lent bytes
abbrev pub verdict_at : Kind → List ℕ → ℕ → Verdict
verdict_at k s at = verdict (ends_at k s at) (range_at k s at)

-- What each verdict on a stored range says at a place: 8, then 23, then 9.
abbrev pub stored_refusal : Verdict → ℕ → Refusal
stored_refusal (Sound r) place = none
stored_refusal (Infinite r) place = refusal infinite place
stored_refusal InfiniteReversed place = refusal infinite place
stored_refusal NotANumber place = refusal not_a_number place
stored_refusal Reversed place = refusal reversed place

-- And on a range of a query's box, which may be open with infinities: 8, then 9.
abbrev pub asked_refusal : Verdict → ℕ → Refusal
asked_refusal (Sound r) place = none
asked_refusal (Infinite r) place = none
asked_refusal InfiniteReversed place = refusal reversed place
asked_refusal NotANumber place = refusal not_a_number place
asked_refusal Reversed place = refusal reversed place
