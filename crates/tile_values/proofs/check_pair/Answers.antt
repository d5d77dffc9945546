-- `tile_values::check_pair` meets its contract: refused mins decide alone; else what the maxes' check says. Assumes
-- nothing.
use Rattle.std.proofs.Common.{arith, refl, ◌∙◌, ne_eqb}
use Rattle.answers.proofs.Told.{ok-clear, err-some}
use Rattle.tile_values.specs.Values.{values_refusal}
use Rattle.tile_values.proofs.Values.{sound}
use Rattle.tile_values.proofs.check_pair.Goals as goal

pub check_maxes-order-requires : goal.check_maxes-order-requires
check_maxes-order-requires c =
    let known = sound _ _ _ (ok-clear c.in-Ok.ensures refl) in
    omega (arith, known.laid_out.layout.bytes)

pub returns-in-Err : goal.returns-in-Err
returns-in-Err c =
    let a = c.args in
    let first = values_refusal a.kind a.tiles a.mins.now in
    c.told-in-Err.ensures
    ∙ rw (c.in-Err.ensures, ne_eqb first.number 0 (err-some c.in-Err.ensures refl))
