-- The invariant of `dense::check_splits`: what all dimensions say is what those from i on say.
-- Assumes nothing.
use Rattle.std.proofs.Common.{◌≡◌, ℕ, ◌-◌, List, get_or}
use Rattle.answers.specs.declared.Refusal.{Refusal}
use Rattle.answers.specs.Checks.{each}
use Rattle.boxes.specs.declared.Side.{Side}
use Rattle.boxes.specs.Boxes.{range_in}
use Rattle.dense.specs.Dense.{split_refusal}
use Rattle.dense.proofs.check_splits.Given as goal

-- what is told of dimension i
abbrev pub split-told : List Side → List ℕ → ℕ → Refusal
split-told sides extents i = split_refusal (range_in sides i) (get_or extents i 0) i

abbrev pub invariant-loop-i : goal.invariant-loop-i
invariant-loop-i l = each (split-told l.sides l.extents) 0 l.n ≡ each (split-told l.sides l.extents) l.i (l.n - l.i)
