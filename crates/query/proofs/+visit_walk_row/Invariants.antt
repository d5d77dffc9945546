-- The measures of `query::visit` and `query::walk_row`: twice the distance, and one more for the row. The row's
-- invariant: what is left of the row has a `Row`, walking it from here comes to what walking the whole row comes to, and
-- the place is that of box k.
-- Assumes nothing.
use Rattle.std.proofs.Common.{◌≡◌, ◌+◌, ◌-◌, ◌*◌}
use Rattle.tree.specs.Shape.{level_start}
use Rattle.query.specs.Code.Walking.{planned, tiles_in, state, walked, children_walked, Row}
use Rattle.query.proofs.+visit_walk_row.Given as goal

abbrev pub decreases-visit : goal.decreases-visit
decreases-visit l = l.distance + l.distance

abbrev pub decreases-walk_row : goal.decreases-walk_row
decreases-walk_row l = l.distance + l.distance + 1

abbrev pub invariant-walk_row-loop-k : goal.invariant-walk_row-loop-k
invariant-walk_row-loop-k l =
    let g = planned l.body l.plan in
    Row g l.distance l.k (l.last - l.k) (state l.sofar l.out)
    × (walked g l.distance l.k (l.last - l.k) (state l.sofar l.out) ≡ children_walked g l.distance l.parent (state l.fn.walk l.fn.out))
    × (l.place ≡ level_start g.f (tiles_in g) g.b l.distance + l.k * g.b)
