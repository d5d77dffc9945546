-- `entries::open_sizes` meets its contract, which is the whole check's with the rule of sizes. Assumes nothing.
use Rattle.answers.specs.Told.{number_of}
use Rattle.lists.specs.Sizes.{sizes_refusal_by}
use Rattle.entries.proofs.Entries.{says-sum}
use Rattle.entries.proofs.open_sizes.Goals as goal

pub returns : goal.returns
unfolding number_of sizes_refusal_by
returns c = says-sum c.check_entries.result _ _ c.check_entries.ensures
