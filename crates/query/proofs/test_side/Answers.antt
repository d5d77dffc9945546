-- `query::test_side` meets its contract: a side with NaN misses; any other, as it was read, and the window's, which has no NaN, compare as their
-- patterns do. Assumes nothing.
use mathlib.Core.Path.{refl, sym, ◌∙◌}
use Rattle.ranges.proofs.Comparing.{nan-misses}
use Rattle.query.proofs.Window.{no-nan-ends, meets-here}
use Rattle.query.proofs.test_side.Goals as goal

pub returns-then-has_nan : goal.returns-then-has_nan
returns-then-has_nan c = (sym (nan-misses _ _ (sym c.has_nan.ensures ∙ c.if-has_nan.true)), refl)

pub window_range-asked-requires : goal.window_range-asked-requires
window_range-asked-requires c = no-nan-ends _ c.requires.i_value

pub returns : goal.returns
returns c =
    let a = c.args in (
      meets-here a.bytes.now (λ j. (c.type_inv.bytes j).fits) a.kind a.at a.ends.now a.i _ _ c.range_in-range.ensures
          c.window_range-asked.ensures c.meets.ensures,
      refl,
    )
