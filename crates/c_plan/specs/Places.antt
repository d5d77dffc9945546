-- The places of the read plan's answer.
-- Assumes nothing.
use Rattle.std.specs.Prelude.{ℕ, List, [], ◌∷◌}
use Rattle.plan.specs.declared.ReadPlan.{ReadPlan}

abbrev pub plan_places : ReadPlan → List ℕ
plan_places r = r.number ∷ r.place ∷ r.ranges ∷ r.tiles ∷ r.outside ∷ r.bytes ∷ []
