-- `var_values::first_break` meets its contract: the starts decide. Assumes nothing.
use mathlib.Core.Path.{sym, ap, ◌∙◌}
use native.Mathlib.Omega.{arith}
use Rattle.lists.specs.VarOffsets.{starts_refusal}
use Rattle.tile_metadata.proofs.Bodies.{laid}
use Rattle.var_values.proofs.VarValues.{starts-say}
use Rattle.var_values.proofs.first_break.Goals as goal

pub overflow_mul-end : goal.overflow_mul-end
overflow_mul-end c =
    let known = laid 8 _ _ c.requires in
    omega arith

pub overflow_add-end : goal.overflow_add-end
overflow_add-end c =
    let known = laid 8 _ _ c.requires in
    omega arith

pub returns : goal.returns
returns c =
    let a = c.args in
    c.check_starts.ensures
    ∙ ap (λ z. starts_refusal a.tiles z a.body.now) c.u64_at-size.ensures
    ∙ sym (starts-say a.tiles a.body.now c.requires)
