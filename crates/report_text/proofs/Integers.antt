-- Which kinds does a report's description have? Integers alone, also past D: so 28 is never said of it
-- (`unretired-asked`), and what is said of it is what the limits say (`limits-alone`).
-- Assumes nothing.
use mathlib.Core.Path.{◌≡◌, refl, ap, ◌∙◌}
use mathlib.Core.Bool.{Bool, true, false, cond}
use mathlib.Core.List.{List}
use Prim.Native.Nat.{ℕ, ◌<◌}
use native.Mathlib.Omega.{arith}
use lib.Dec.{ltb, eqb}
use Rattle.answers.specs.Refusals.{none, retired}
use Rattle.answers.specs.Checks.{check, first}
use Rattle.answers.proofs.Checks.{last, first-none, all-clear}
use Rattle.answers.proofs.Filled.{filled_at}
use Rattle.description.specs.declared.Kind.TheVariants.{Int32, Int64}
use Rattle.description.specs.declared.Dimension.{Dimension}
use Rattle.description.specs.declared.Description.{Description}
use Rattle.description.specs.Kinds.{is_float32}
use Rattle.description.specs.Description.{kind_at, sides_of, limits_refusal, retired_refusal, description_refusal}
use Rattle.description.proofs.Rules.{Unretired}
use Rattle.report_text.specs.Asked.{dimension_of, bits_at, description_of}

integer : (bits : ℕ) → is_float32 (dimension_of bits).kind ≡ false
integer bits = go (eqb bits 64)
  where
    go : (t : Bool) → is_float32 (cond t Int64 Int32) ≡ false
    go true = refl
    go false = refl

limits-none : (d : Description) → (limits_refusal d).number ≡ 0 → limits_refusal d ≡ none
unfolding limits_refusal
limits-none d h = first-none _ h

module _ (t : List ℕ) (D : ℕ) where
  integers : (i : ℕ) → i < 4 → is_float32 (kind_at (description_of t D).kinds i) ≡ false
  integers i l =
      ap (λ (x : Dimension). is_float32 x.kind)
      (filled_at (λ j. dimension_of (bits_at t j)) (dimension_of 64) D 4 i (record { kind = Int32 }) l)
      ∙ go (ltb i D)
    where
      go : (b : Bool) → is_float32 (cond b (dimension_of (bits_at t i)) (dimension_of 64)).kind ≡ false
      go true = integer (bits_at t i)
      go false = integer 64

  pub unretired-asked : Unretired (description_of t D)
  unfolding retired_refusal
  unretired-asked = record {
    silent = all-clear (λ i. check (is_float32 (kind_at (description_of t D).kinds i)) retired i) 0 (sides_of D)
        (λ i low high. rw (integers i (omega arith)));
  }

  pub limits-alone : description_refusal (description_of t D) ≡ limits_refusal (description_of t D)
  unfolding first
  limits-alone = rw unretired-asked.silent (last (limits_refusal (description_of t D)) (limits-none (description_of t D)))
