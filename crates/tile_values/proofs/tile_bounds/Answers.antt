-- `tile_values::tile_bounds` meets its contract: what `value_at` answers for as many tiles as the check does. Assumes
-- nothing.
use mathlib.Core.Path.{◌≡◌, ap, ◌∙◌}
use Prim.Native.Nat.{ℕ}
use Rattle.tile_metadata.specs.declared.TwoBodies.{TwoBodies}
use Rattle.tile_values.specs.Values.{values_refusal, maxes_refusal, bounds_of}
use Rattle.tile_metadata.proofs.Asked.{two-asked}
use Rattle.tile_values.proofs.Values.{no-bounds}
use Rattle.tile_values.proofs.tile_bounds.Goals as goal

pub returns : goal.returns
returns c =
    let a = c.args in
    let mins = a.mins.now in
    let maxes = a.maxes.now in
    let asked : record { min = c.value_at-min.result; max = c.value_at-max.result } ≡ bounds_of a.kind c.open_pair-pair.result.tiles mins maxes a.i
    = rw (c.value_at-min.ensures, c.value_at-max.ensures) in
    asked
    ∙ ap (λ (r : TwoBodies). bounds_of a.kind r.tiles mins maxes a.i) c.open_pair-pair.ensures
    ∙ two-asked (λ (n : ℕ). bounds_of a.kind n mins maxes a.i) (no-bounds a.kind mins maxes a.i) a.tiles
    (values_refusal a.kind a.tiles mins) (maxes_refusal a.kind a.tiles mins maxes)
