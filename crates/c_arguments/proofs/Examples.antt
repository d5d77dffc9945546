-- What is said of a description that comes as numbers? By computation: float32's number is a kind's, so it is 28 and
-- not 1; a number that is no kind's is 1, whatever stands beside it.
-- Assumes nothing.
use mathlib.Core.Path.{◌≡◌, refl}
use mathlib.Core.List.{[], ◌∷◌}
use Rattle.answers.specs.Refusals.{refusal}
use Rattle.answers.specs.Runs.{over}
use Rattle.answers.specs.Checks.{first}
use Rattle.description.specs.Kinds.{kind_of_datatype}
use Rattle.description.specs.Description.{limits_refusal, retired_refusal, description_refusal}
use Rattle.c_arguments.specs.Described.{all_kinds, numbered_dimensions, describe}

numbered : (description_refusal (describe (3 ∷ 2 ∷ []) 1 1) ≡ refusal 28 1)
    × (description_refusal (describe (2 ∷ 4 ∷ []) 1 1) ≡ refusal 1 0)
unfolding first over limits_refusal retired_refusal kind_of_datatype all_kinds numbered_dimensions describe
numbered = (refl, refl)
