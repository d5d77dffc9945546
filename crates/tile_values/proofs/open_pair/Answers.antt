-- `tile_values::open_pair` meets its contract: what one pass accepts is accepted, and else the checks in their order
-- say it. Assumes nothing.
use Rattle.std.proofs.Common.{arith, refl, ◌∙◌}
use Rattle.answers.specs.Told.{told}
use Rattle.answers.proofs.Told.{ok-clear}
use Rattle.tile_values.proofs.Values.{fixed, accepted}
use Rattle.tile_values.proofs.open_pair.Goals as goal

-- both bodies are laid out
pub in_order-requires-clause-n_in_bounds : goal.in_order-requires-clause-n_in_bounds
in_order-requires-clause-n_in_bounds c =
    let first = fixed _ _ _ (ok-clear c.in-Ok.ensures refl) in
    omega (arith, first.layout.bytes)

pub in_order-requires-clause-n_in_bounds_2 : goal.in_order-requires-clause-n_in_bounds_2
in_order-requires-clause-n_in_bounds_2 c =
    let second = fixed _ _ _ (ok-clear c.in-Ok-check_fixed.ensures refl) in
    omega (arith, second.layout.bytes)

pub returns : goal.returns
unfolding told
returns c =
    let a = c.args in
    let said = accepted a.kind a.tiles a.mins.now a.maxes.now (ok-clear c.in-Ok.ensures refl) (ok-clear c.in-Ok-check_fixed.ensures refl) (c.in_order.ensures c.if-in_order.true) in
    c.told.ensures ∙ rw (said.0, said.1)
