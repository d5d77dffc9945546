-- When is 28 said of a description? Exactly if one of its D dimensions is float32 (`without-float32`, `no-float32`), at the
-- first of them (`first-float32`); after 1, and of no kind past D (`cases`).
-- Assumes nothing.
use mathlib.Core.Path.{◌≡◌, refl, ap, ◌∙◌}
use mathlib.Core.Bool.{true, false}
use mathlib.Core.List.{List, [], ◌∷◌}
use Prim.Native.Nat.{ℕ, ◌-◌, ◌+◌, ◌<◌}
use native.Mathlib.Nat.{zero-add}
use native.Mathlib.Omega.{arith}
use Rattle.answers.specs.Refusals.{refusal, none, retired}
use Rattle.answers.specs.Runs.{over}
use Rattle.answers.specs.Checks.{check, first, each}
use Rattle.answers.specs.declared.Refusal.{Refusal}
use Rattle.answers.proofs.Checks.{check-clear, stop-left, each-clear, each-add, all-clear}
use Rattle.description.specs.declared.Kind.{Kind}
use Rattle.description.specs.declared.Kind.TheVariants.{Int32, Float32, Float64}
use Rattle.description.specs.declared.Dimension.{Dimension}
use Rattle.description.specs.declared.Description.{Description}
use Rattle.description.specs.Limits.{least_tiles, outside}
use Rattle.description.specs.Kinds.{is_float32}
use Rattle.description.specs.Description.{kind_at, sides_of, limits_refusal, retired_refusal, description_refusal}
use Rattle.description.specs.Rules.{earlier, described_by}
use Rattle.description.proofs.Rules.{Unretired}

module _ (d : Description) where
  abbrev said : ℕ → Refusal
  said i = check (is_float32 (kind_at d.kinds i)) retired i

  pub without-float32 : ((i : ℕ) → i < d.dimensions → is_float32 (kind_at d.kinds i) ≡ false) → Unretired d
  unfolding retired_refusal
  without-float32 h = record { silent = all-clear said 0 (sides_of d.dimensions) (λ i low high. rw (h i (omega arith))) }

  pub no-float32 : Unretired d → (i : ℕ) → i < sides_of d.dimensions → is_float32 (kind_at d.kinds i) ≡ false
  unfolding retired_refusal
  no-float32 u i l =
      let silent : (each said 0 (sides_of d.dimensions)).number ≡ 0 = ap (λ (r : Refusal). r.number) u.silent in
      check-clear _ retired i (omega arith) (each-clear said 0 (sides_of d.dimensions) silent i (omega arith) (omega arith))

  pub first-float32 : (i : ℕ) → i < sides_of d.dimensions → is_float32 (kind_at d.kinds i) ≡ true
      → ((j : ℕ) → j < i → is_float32 (kind_at d.kinds j) ≡ false) → retired_refusal d ≡ refusal retired i
  unfolding retired_refusal
  first-float32 i l is others =
      let n = sides_of d.dimensions in
      let split : n ≡ i + (n - i) = omega arith in
      let here : refusal retired i ≡ said i = rw is in
      let before : each said 0 i ≡ none = all-clear said 0 i (λ j low high. rw (others j (omega arith))) in
      ap (each said 0) split
      ∙ each-add said 0 i (n - i)
      ∙ rw (before, zero-add) (stop-left said i n (refusal retired i) l here (λ z. omega arith))

-- D, and the kinds of as many dimensions or of more; N 1, C 32
described : ℕ → List Kind → Description
described dimensions kinds = record { dimensions = dimensions; kinds = listed kinds; fields = 1; capacity = 32 }
  where
    listed : List Kind → List Dimension
    listed [] = []
    listed (k ∷ ks) = record { kind = k } ∷ listed ks

cases :
    (description_refusal (described 1 (Float32 ∷ [])) ≡ refusal 28 0)
    × (description_refusal (described 2 (Float64 ∷ Float32 ∷ [])) ≡ refusal 28 1)
    × (description_refusal (described 3 (Float32 ∷ Int32 ∷ Float32 ∷ [])) ≡ refusal 28 0)
    × (description_refusal (described 0 (Float32 ∷ [])) ≡ refusal 1 0)
    × (description_refusal (described 5 (Float32 ∷ Float32 ∷ Float32 ∷ Float32 ∷ [])) ≡ refusal 1 0)
    × (description_refusal (described 1 (Float64 ∷ Float32 ∷ [])) ≡ none)
unfolding over first limits_refusal retired_refusal described
cases = (refl, refl, refl, refl, refl, refl)

-- The earlier rules know no 28, and their most tiles are 65,536.
earlier-cases :
    (described_by earlier (described 1 (Float32 ∷ [])) ≡ none)
    × (outside least_tiles earlier.tiles 65_536 ≡ false)
    × (outside least_tiles earlier.tiles 65_537 ≡ true)
unfolding first limits_refusal described
earlier-cases = (refl, refl, refl)
