-- `tree::fill` calls itself for the level above: the measure is the number of levels from here on. Assumes nothing.
use Rattle.tree.specs.Shape.{levels}
use Rattle.tree.proofs.+fill.Given as goal

abbrev pub decreases-fill : goal.decreases-fill
decreases-fill l = levels l.fanout l.count
