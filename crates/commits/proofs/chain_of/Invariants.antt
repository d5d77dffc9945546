-- `commits::chain_of` meets its contract. Assumes nothing.
use Rattle.std.proofs.Common.{◌≡◌, ◌^◌, ◌<◌, drop}
use Rattle.commits.specs.Code.Index.{hash_from}
use Rattle.commits.proofs.chain_of.Given as goal

abbrev pub invariant-loop-b : goal.invariant-loop-b
invariant-loop-b l = (l.hash < 2 ^ 32) × (hash_from 0 l.last ≡ hash_from l.hash (drop l.b-index l.last))
