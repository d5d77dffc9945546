-- `Description::check_kinds` meets its contract. The loop's invariant: what all the dimensions say is what those from i on
-- say, since the ones before said nothing. Assumes nothing.
use Rattle.std.proofs.Common.{◌≡◌, ℕ, ◌-◌, Bool, List}
use Rattle.answers.specs.Checks.{check, each}
use Rattle.answers.specs.declared.Refusal.{Refusal}
use Rattle.answers.specs.Told.{number_of}
use Rattle.description.specs.declared.Dimension.{Dimension}
use Rattle.description.specs.Kinds.{float_of}
use Rattle.description.specs.Description.{kind_at}
use Rattle.description.proofs.Description.check_kinds.Given as goal

abbrev pub said : Bool → ℕ → List Dimension → ℕ → Refusal
said both number kinds i = check (float_of both (kind_at kinds i)) number i

abbrev pub invariant-loop-i : goal.invariant-loop-i
invariant-loop-i l =
    let g = said l.both (number_of l.reason) l.self.kinds in
    each g 0 l.n ≡ each g l.i (l.n - l.i)
