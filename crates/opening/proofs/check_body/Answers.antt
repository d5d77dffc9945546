-- `opening::check_body` meets its contract: the shape's refusal, or that of the first box, or the first of a level.
-- Assumes nothing.
use mathlib.Core.Path.{◌∙◌}
use Rattle.opening.proofs.Levels.{body_refused, some_level, boxes-said}
use Rattle.opening.proofs.Levels.{root-there, level-there}
use Rattle.opening.proofs.check_body.Goals as goal

pub returns-then-shaped-ne0 : goal.returns-then-shaped-ne0
returns-then-shaped-ne0 c =
    c.new.ensures
    ∙ body_refused c.check_shape-shaped.ensures c.args.domain.now c.requires.least_tiles_le_tiles c.requires.tiles_le_most_tiles c.if-shaped-ne0.true

pub overflow_sub-top : goal.overflow_sub-top
overflow_sub-top c = some_level c.check_shape-shaped.ensures c.if-shaped-ne0.false

pub check_boxes-requires : goal.check_boxes-requires
check_boxes-requires c =
    let some = c.requires.description_nonzero in
    record {
      root = root-there c.check_shape-shaped.ensures c.if-shaped-ne0.false c.box_bytes-box_bytes.ensures some;
      below = λ l h. level-there c.check_shape-shaped.ensures c.if-shaped-ne0.false c.box_bytes-box_bytes.ensures some l h;
    }

pub returns : goal.returns
returns c =
    c.from.ensures ∙ c.check_boxes.ensures
    ∙ boxes-said c.check_shape-shaped.ensures c.if-shaped-ne0.false c.box_bytes-box_bytes.ensures c.requires.description_nonzero c.args.domain.now
