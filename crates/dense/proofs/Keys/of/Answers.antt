-- `dense::Keys::of` meets its contract: the patterns fit their kind.
-- Assumes nothing.
use Rattle.dense.specs.Dense.{low_key, high_key}
use Rattle.dense.proofs.Told.{key-same}
use Rattle.dense.proofs.Keys.of.Goals as goal

pub returns : goal.returns
unfolding low_key high_key
returns c =
    let e = c.patterns-ends.ensures in (
      key-same _ _ _ _ _ c.kind-kind.ensures e.0 e.2 c.key_of.ensures,
      key-same _ _ _ _ _ c.kind-kind.ensures e.1 e.3 c.key_of-2.ensures,
    )
