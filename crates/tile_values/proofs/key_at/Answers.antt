-- `tile_values::key_at` meets its contract: each kind's key of the pattern that stands there. Assumes nothing.
use mathlib.Core.Path.{ap, ◌∙◌}
use lib.Ieee.{binary32, binary64}
use mir.Syntax.{w32, w64}
use Rattle.order.specs.Key.{signed_key, float_key}
use Rattle.order.specs.Little.{little}
use Rattle.description.specs.Kinds.{end_bytes, key}
use Rattle.ranges.proofs.Comparing.{when-known}
use Rattle.tile_values.proofs.key_at.Goals as goal

pub returns-in-Int32 : goal.returns-in-Int32
unfolding key
returns-in-Int32 c =
    let a = c.args in
    when-known (λ k. key k (little a.body.now a.at (end_bytes k))) c.in-Int32.is
    (c.key.ensures ∙ ap (signed_key w32) c.u32_at.ensures)

pub returns-in-Int64 : goal.returns-in-Int64
unfolding key
returns-in-Int64 c =
    let a = c.args in
    when-known (λ k. key k (little a.body.now a.at (end_bytes k))) c.in-Int64.is
    (c.key-in-Int64.ensures ∙ ap (signed_key w64) c.u64_at.ensures)

pub returns-in-Float32 : goal.returns-in-Float32
unfolding key
returns-in-Float32 c =
    let a = c.args in
    when-known (λ k. key k (little a.body.now a.at (end_bytes k))) c.in-Float32.is
    (c.key-in-Float32.ensures ∙ ap (float_key binary32) c.u32_at-in-Float32.ensures)

pub returns-in-Float64 : goal.returns-in-Float64
unfolding key
returns-in-Float64 c =
    let a = c.args in
    when-known (λ k. key k (little a.body.now a.at (end_bytes k))) c.in-Float64.is
    (c.key-in-Float64.ensures ∙ ap (float_key binary64) c.u64_at-in-Float64.ensures)

pub returns-in-Uint64 : goal.returns-in-Uint64
unfolding key
returns-in-Uint64 c =
    let a = c.args in
    when-known (λ k. key k (little a.body.now a.at (end_bytes k))) c.in-Uint64.is c.u64_at-in-Uint64.ensures
