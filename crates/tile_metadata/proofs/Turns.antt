-- How does a loop over n values go? What decides at value i is what the values from i on say: at the start all of them,
-- past one that keeps the rule the others, and at one that breaks it that one.
-- Assumes nothing.
use mathlib.Core.Path.{◌≡◌, refl, sym, ◌∙◌}
use mathlib.Core.Bool.{Bool, true, false}
use mathlib.Core.List.{List}
use Prim.Native.Nat.{ℕ, ◌+◌, ◌-◌, ◌*◌, ◌≤◌, ◌<◌}
use native.Mathlib.Nat.{add-zero, mul-le-mul, le_refl}
use native.Mathlib.Decide.{dec_lt}
use native.Mathlib.Omega.{arith}
use lib.ListN.{take, drop}
use Rattle.answers.specs.Refusals.{refusal, none}
use Rattle.answers.specs.Checks.{check, otherwise, each}
use Rattle.answers.specs.declared.Refusal.{Refusal}
use Rattle.answers.proofs.Runs.{Each, over-start}
use Rattle.answers.proofs.Checks.{none_left, past-left, stop-left, check-clear, each-clear, all-clear}
use Rattle.order.specs.Little.{little}
use Rattle.order.proofs.Little.{little-part}
use Rattle.tile_metadata.specs.Bodies.{values_break}

-- what is said of value i
abbrev pub said : (ℕ → Bool) → ℕ → ℕ → ℕ → Refusal
said breaks number w i = check (breaks i) number (8 + w * i)

module _ (breaks : ℕ → Bool) (number w n : ℕ) where
  -- the values from i on decide
  pub record Left (i : ℕ) : Type 0 where
    pub within : i ≤ n
    pub decides : values_break breaks number w n ≡ each (said breaks number w) i (n - i)

  pub begun : Left 0
  begun = record { within = omega arith; decides = over-start otherwise none _ n }

module _ {breaks : ℕ → Bool} {number w n i : ℕ} (l : Left breaks number w n i) where
  pub kept : i < n → breaks i ≡ false → Left breaks number w n (i + 1)
  kept some e = record {
    within = omega arith;
    decides = l.decides ∙ past-left (said breaks number w) i n (said breaks number w i) some refl (rw e);
  }

  pub broken : i < n → 0 < number → breaks i ≡ true → refusal number (8 + w * i) ≡ values_break breaks number w n
  broken some number-some e =
      sym (l.decides ∙ stop-left (said breaks number w) i n (refusal number (8 + w * i)) some (rw e) (λ z. omega arith))

  pub all-kept : n ≤ i → none ≡ values_break breaks number w n
  all-kept done = sym (l.decides ∙ none_left (said breaks number w) i (n - i) (omega arith))

-- none of the n values breaks a rule
pub values-keep : (breaks : ℕ → Bool) (number w n : ℕ) → 0 < number → (values_break breaks number w n).number ≡ 0
    → Each (λ i. breaks i ≡ false) 0 n
values-keep breaks number w n some h i a b =
    check-clear (breaks i) number (8 + w * i) some (each-clear _ 0 n h i a b)

-- value i, whole, ends before the last one does
pub value-within : (w i n : ℕ) → i < n → w * i + w ≤ w * n
value-within w i n h =
    let next : i + 1 ≤ n = omega arith in
    omega (arith, mul-le-mul (le_refl w) next)

-- no value breaks the rule: nothing is said
pub none-break : (breaks : ℕ → Bool) (number w n : ℕ) → ((i : ℕ) → i < n → breaks i ≡ false) → values_break breaks number w n ≡ none
none-break breaks number w n keep = all-clear _ 0 n (λ i a b. rw (keep i (omega arith)))

-- ---- what holds from one value on and before another: one more, and two runs that meet
abbrev pub Between : (ℕ → Type 0) → ℕ → ℕ → Type 0
Between P from to = (j : ℕ) → from ≤ j → j < to → P j

pub one_more : (P : ℕ → Type 0) (from i : ℕ) → Between P from i → P i → Between P from (i + 1)
one_more P from i before now j a b = go (dec_lt j i)
  where
    go : Dec (j < i) → P j
    go (yes h) = before j a h
    go (no h) = let e : j ≡ i = omega arith in rw e now

pub joined : (P : ℕ → Type 0) (from i to : ℕ) → Between P from i → Between P i to → Between P from to
joined P from i to before after j a b = go (dec_lt j i)
  where
    go : Dec (j < i) → P j
    go (yes h) = before j a h
    go (no h) = after j (omega arith) b

-- ---- the bytes of a part of the width of a value are those of the whole from the part's place on
pub part : (s : List ℕ) (at w : ℕ) → little (take (at + w - at) (drop at s)) 0 w ≡ little s at w
part s at w = rw add-zero at (little-part s at (at + w - at) 0 w (omega arith))
