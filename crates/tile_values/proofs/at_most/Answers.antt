-- `tile_values::at_most` meets its contract: floats compare as values, and integers by their keys. Assumes nothing.
use mathlib.Core.Path.{◌∙◌}
use lib.Ieee.{binary32, binary64}
use Rattle.order.specs.Key.{float_at_most}
use Rattle.order.specs.Little.{little}
use Rattle.description.specs.Kinds.{end_bytes, is_nan, key, ordered, at_most}
use Rattle.ranges.proofs.Comparing.{when-known}
use Rattle.tile_values.proofs.Values.{read-order}
use Rattle.tile_values.proofs.at_most.Goals as goal

pub returns-in-Float32 : goal.returns-in-Float32
unfolding at_most is_nan key float_at_most
returns-in-Float32 c =
    let a = c.args in
    when-known (λ k. at_most (ordered k) (little a.min.now 0 (end_bytes k)) (little a.max.now 0 (end_bytes k))) c.in-Float32.is
    (c.at_most.ensures
    ∙ rw (c.of-low.ensures, c.of-high.ensures, c.u32_at.ensures, c.u32_at-in-Float32.ensures)
    (read-order binary32 (little a.min.now 0 4) (little a.max.now 0 4)))

pub returns-in-Float64 : goal.returns-in-Float64
unfolding at_most is_nan key float_at_most
returns-in-Float64 c =
    let a = c.args in
    when-known (λ k. at_most (ordered k) (little a.min.now 0 (end_bytes k)) (little a.max.now 0 (end_bytes k))) c.in-Float64.is
    (c.at_most-in-Float64.ensures
    ∙ rw (c.of-low-in-Float64.ensures, c.of-high-in-Float64.ensures, c.u64_at.ensures, c.u64_at-in-Float64.ensures)
    (read-order binary64 (little a.min.now 0 8) (little a.max.now 0 8)))

pub returns-in-Int32 : goal.returns-in-Int32
unfolding at_most is_nan key
returns-in-Int32 c =
    let a = c.args in
    when-known (λ k. at_most (ordered k) (little a.min.now 0 (end_bytes k)) (little a.max.now 0 (end_bytes k))) c.in-Int32.is
    (c.u32_at_most.ensures ∙ rw (c.key-low.ensures, c.key-high.ensures, c.u32_at-in-Int32.ensures, c.u32_at-in-Int32-2.ensures))

pub returns-in-Int64 : goal.returns-in-Int64
unfolding at_most is_nan key
returns-in-Int64 c =
    let a = c.args in
    when-known (λ k. at_most (ordered k) (little a.min.now 0 (end_bytes k)) (little a.max.now 0 (end_bytes k))) c.in-Int64.is
    (c.at_most-in-Int64.ensures ∙ rw (c.key-low-in-Int64.ensures, c.key-high-in-Int64.ensures, c.u64_at-in-Int64.ensures, c.u64_at-in-Int64-2.ensures))

pub returns-in-Uint64 : goal.returns-in-Uint64
unfolding at_most is_nan key
returns-in-Uint64 c =
    let a = c.args in
    when-known (λ k. at_most (ordered k) (little a.min.now 0 (end_bytes k)) (little a.max.now 0 (end_bytes k))) c.in-Uint64.is
    (c.at_most-in-Uint64.ensures ∙ rw (c.u64_at-in-Uint64.ensures, c.u64_at-in-Uint64-2.ensures))
