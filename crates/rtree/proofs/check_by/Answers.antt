-- `rtree::check_by` meets its contract: its checks in turn. Assumes nothing.
use Rattle.std.proofs.Common.{◌≡◌, Result, Ok, Err, refl, sym}
use Rattle.std.specs.Result.{result_and}
use Rattle.answers.specs.declared.Refused.{Refused}
use Rattle.answers.specs.Refusals.{none}
use Rattle.answers.specs.Checks.{otherwise}
use Rattle.answers.specs.Told.{said, told}
use Rattle.answers.proofs.Checks.{go_on, halt}
use Rattle.answers.proofs.Told.{refuses}
use Rattle.rtree.proofs.check_by.Goals as goal

together : (r s : Result Unit Refused) → told (result_and r s) ≡ otherwise (told r) (told s)
unfolding told
together (Ok u) s = sym (go_on none (told s) refl)
together (Err e) s = sym (halt (said e) (told s) (refuses e))

pub returns : goal.returns
returns c =
    rw (c.and.ensures, c.and-shown.ensures, together c.check_front.result (result_and c.check_size.result c.check_counts.result), together c.check_size.result c.check_counts.result, c.check_front.ensures, c.check_size.ensures, c.check_counts.ensures)
    refl
