-- `tile_counts::all_within` meets its contract: what the test says of each full tile, and the last one's own. Assumes
-- nothing.
use Rattle.std.proofs.Common.{◌≡◌, ◌-◌, rules, arith}
use borrow.Author.Tests.{leb-true}
use Rattle.lists.specs.Lists.{entry}
use Rattle.tile_counts.proofs.Counts.{within-cells}
use Rattle.tile_counts.proofs.all_within.Goals as goal

pub returns-then-all_hold_by_eights : goal.returns-then-all_hold_by_eights
returns-then-all_hold_by_eights c = λ e.
    let a = c.args in
    let s = a.body.now in
    let last = leb-true (entry s (a.n - 1)) a.last_cells (rw c.word_at.ensures at e) in
    within-cells a.n a.last_cells a.capacity s c.requires.le_n
    (λ j _ l. let h = c.all_hold_by_eights.ensures.holds c.if-all_hold_by_eights.true j l in leb-true (entry s j) a.capacity (search (rules, h)))
    (λ j low high. let at : j ≡ a.n - 1 = omega arith in rw at last)
