-- `c_values::numbered_pair` meets its contract: by whether the number is a kind's. Assumes nothing.
use Rattle.std.proofs.Common.{◌∙◌}
use Rattle.answers.specs.Told.{told, number_of}
use Rattle.tile_values.specs.Values.{pair_answer}
use Rattle.c_values.specs.Numbered.{numbered_pair}
use Rattle.c_values.proofs.OfKind.{some_kind, no_kind}
use Rattle.c_values.proofs.numbered_pair.Goals as goal

pub returns-in-Some : goal.returns-in-Some
unfolding numbered_pair
returns-in-Some c =
    let a = c.args in
    c.open_pair.ensures ∙ some_kind a.kind (λ k. pair_answer k a.tiles a.mins.now a.maxes.now) _ c.in-Some.ensures

pub returns-in-None : goal.returns-in-None
unfolding numbered_pair told number_of
returns-in-None c =
    let a = c.args in
    c.told.ensures ∙ rw c.at.ensures (no_kind a.kind (λ k. pair_answer k a.tiles a.mins.now a.maxes.now) _ c.in-None.ensures)
