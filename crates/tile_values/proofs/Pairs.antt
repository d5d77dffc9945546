-- What does the pass that holds each min against its max go by?
-- Assumes nothing.
use mathlib.Core.Path.{◌≡◌}
use mathlib.Core.Bool.{true}
use mathlib.Core.List.{List}
use Prim.Native.Nat.{ℕ}
use Rattle.description.specs.declared.Kind.{Kind}
use Rattle.description.specs.Kinds.{ordered, at_most}
use Rattle.tile_values.specs.Values.{pattern}

module _ (k : Kind) (mins maxes : List ℕ) where
  -- min j is at most max j
  abbrev pub Ordered : ℕ → Type 0
  Ordered j = at_most (ordered k) (pattern k mins j) (pattern k maxes j) ≡ true
