-- `replay::count_lines` meets its contract: the last byte says whether bytes follow the last newline. Assumes nothing.
use Prim.Native.Nat.{ℕ, ◌+◌, ◌<◌}
use mathlib.Core.Path.{◌≡◌, ap, ◌∙◌}
use native.Mathlib.Omega.{arith}
use lib.ListN.{length}
use Rattle.text.specs.Text.{lines}
use Rattle.replay.proofs.Counted.{counted-ended, counted-tail}
use Rattle.replay.proofs.Room.{lines-few}
use Rattle.replay.proofs.count_lines.Goals as goal

pub returns-then-size-eq0 : goal.returns-then-size-eq0
returns-then-size-eq0 c = omega (arith, lines-few c.args.log.now, c.if-size-eq0.true)

pub returns-then-log-size-eq10 : goal.returns-then-log-size-eq10
returns-then-log-size-eq10 c =
    let some : 0 < length c.args.log.now = omega (arith, c.if-size-eq0.false) in
    c.newlines-ended.ensures ∙ counted-ended c.args.log.now some c.if-log-size-eq10.true

pub overflow_add-result : goal.overflow_add-result
overflow_add-result c =
    let some : 0 < length c.args.log.now = omega (arith, c.if-size-eq0.false) in
    let tail : c.newlines-ended.result + 1 ≡ length (lines c.args.log.now) =
    ap (λ (k : ℕ). k + 1) c.newlines-ended.ensures ∙ counted-tail c.args.log.now some c.if-log-size-eq10.false in
    omega (arith, tail, lines-few c.args.log.now)

pub returns-else-log-size-eq10 : goal.returns-else-log-size-eq10
returns-else-log-size-eq10 c =
    let some : 0 < length c.args.log.now = omega arith in
    ap (λ (k : ℕ). k + 1) c.newlines-ended.ensures ∙ counted-tail c.args.log.now some c.if-log-size-eq10.false
