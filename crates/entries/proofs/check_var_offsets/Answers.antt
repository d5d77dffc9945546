-- `entries::check_var_offsets` meets its contract, which is the whole check's with its rule. Assumes nothing.
use Rattle.std.proofs.Common.{sym}
use Rattle.std.proofs.lemmas.Result.{err_from_is_err_and}
use Rattle.answers.specs.Told.{told, number_of}
use Rattle.lists.specs.VarOffsets.{var_offsets_refusal_by}
use Rattle.entries.proofs.check_var_offsets.Goals as goal

pub returns-in_err-check_entries : goal.returns-in_err-check_entries
unfolding told number_of var_offsets_refusal_by
returns-in_err-check_entries c =
    let p = err_from_is_err_and c.from_residual.result c.from_residual.ensures.1 in
    rw (p.1, p.2) c.in_err-check_entries.ensures

pub returns : goal.returns
unfolding told number_of var_offsets_refusal_by
returns c = sym c.in_ok-check_entries.ensures.0
