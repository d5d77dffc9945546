-- Mins and maxes of a kind that comes as its Datatype number. One that is no kind's is 1 at 0, before 10, and of two
-- bodies the first; what is asked of a tile is then 0, as of a refused body.
-- Assumes nothing.
use Rattle.std.specs.Prelude.{ℕ, cond, List}
use Rattle.answers.specs.Refusals.{refusal, none, description}
use Rattle.description.specs.declared.Kind.{Kind}
use Rattle.description.specs.Kinds.{kind_of_datatype, is_datatype}
use Rattle.tile_metadata.specs.declared.TileValues.{TileValues}
use Rattle.tile_metadata.specs.declared.TwoBodies.{TwoBodies}
use Rattle.tile_metadata.specs.Bodies.{answered, together}
use Rattle.tile_values.specs.declared.Bounds.{Bounds}
use Rattle.tile_values.specs.Values.{values_answer, pair_answer, value_answer, bounds_answer}

-- what is said of the kind of a number, or else where it is no kind's
abbrev pub of_kind : {A : Type 0} → ℕ → (Kind → A) → A → A
of_kind number f other = cond (is_datatype number) (f (kind_of_datatype number)) other

module _ (number n : ℕ) where
  unfoldable pub numbered_values : List ℕ → TileValues
  numbered_values s = of_kind number (λ k. values_answer k n s) (answered n (refusal description 0))

  unfoldable pub numbered_pair : List ℕ → List ℕ → TwoBodies
  numbered_pair mins maxes = of_kind number (λ k. pair_answer k n mins maxes) (together n (refusal description 0) none)

  unfoldable pub numbered_value : List ℕ → ℕ → ℕ
  numbered_value s i = of_kind number (λ k. value_answer k n s i) 0

  unfoldable pub numbered_bounds : List ℕ → List ℕ → ℕ → Bounds
  numbered_bounds mins maxes i = of_kind number (λ k. bounds_answer k n mins maxes i) (record { min = 0; max = 0 })
