-- `decimal::write_u64` meets its contract: its tests are whether all digits fit at that place. Assumes nothing.
use mathlib.Core.Path.{◌∙◌}
use native.Mathlib.Omega.{arith}
use Rattle.decimal.specs.Decimal.{decimal}
use Rattle.decimal.proofs.Put.{put-fits, put-short}
use Rattle.decimal.proofs.Written.{some-digit}
use Rattle.decimal.proofs.write_u64.Goals as goal

pub returns-then-room-at : goal.returns-then-room-at
returns-then-room-at c =
    let x = c.args in
    (c.digits-count.ensures, put-short x.out.now x.at (decimal x.n) (omega (arith, some-digit x.n)))

pub returns-then-room-at-2 : goal.returns-then-room-at-2
returns-then-room-at-2 c =
    let x = c.args in
    (c.digits-count.ensures, put-short x.out.now x.at (decimal x.n) (omega arith))

pub returns : goal.returns
returns c =
    let b = c in
    let x = b.args in
    (b.digits-count.ensures, b.fill.ensures ∙ put-fits x.out.now x.at (decimal x.n) (omega arith))
