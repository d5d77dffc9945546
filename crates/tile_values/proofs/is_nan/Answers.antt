-- `tile_values::is_nan` meets its contract: only a float's pattern is a NaN's. Assumes nothing.
use mathlib.Core.Path.{ap, ◌∙◌}
use lib.Ieee.{binary32, binary64, nan_bits}
use Rattle.order.specs.Little.{little}
use Rattle.description.specs.Kinds.{end_bytes, is_nan}
use Rattle.ranges.proofs.Comparing.{when-known}
use Rattle.tile_values.proofs.Values.{no_nan}
use Rattle.tile_values.proofs.is_nan.Goals as goal

pub returns-in-Float32 : goal.returns-in-Float32
unfolding is_nan
returns-in-Float32 c =
    let a = c.args in
    when-known (λ k. is_nan k (little a.value.now 0 (end_bytes k))) c.in-Float32.is
    (c.nan_pattern.ensures ∙ ap (nan_bits binary32) c.u32_at.ensures)

pub returns-in-Float64 : goal.returns-in-Float64
unfolding is_nan
returns-in-Float64 c =
    let a = c.args in
    when-known (λ k. is_nan k (little a.value.now 0 (end_bytes k))) c.in-Float64.is
    (c.nan_pattern-in-Float64.ensures ∙ ap (nan_bits binary64) c.u64_at.ensures)

pub returns-in-Int32 : goal.returns-in-Int32
returns-in-Int32 c = no_nan c.args.kind _ c.in-Int32.is
