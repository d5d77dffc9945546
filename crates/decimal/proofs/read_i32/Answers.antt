-- `decimal::read_i32` meets its contract: what is read within half of the patterns fits. Assumes nothing.
use Rattle.std.proofs.Common.{w32, w64, sym}
use Rattle.std.proofs.lemmas.Int.{to_z-of_z}
use Rattle.decimal.proofs.Signed.{signed-fits, wider}
use Rattle.decimal.proofs.read_i32.Goals as goal

pub overflow_cast-result : goal.overflow_cast-result
overflow_cast-result c =
    let n = c.in_ok-number.number in
    let fits = signed-fits w32 c.args.text.now n (sym c.in_ok-number.ensures) in
    rw (to_z-of_z w64 n (wider n fits)) fits

pub returns : goal.returns
returns c =
    let n = c.in_ok-number.number in
    let fits = signed-fits w32 c.args.text.now n (sym c.in_ok-number.ensures) in
    rw (to_z-of_z w64 n (wider n fits), to_z-of_z w32 n fits) c.in_ok-number.ensures
