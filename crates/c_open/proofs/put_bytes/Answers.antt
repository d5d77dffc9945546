-- `c_open::put_bytes` meets its contract: the numbers still to come, over what stands there now, are all of them over
-- what stood there first. Assumes nothing.
use mathlib.Core.Path.{sym, ◌∙◌}
use Prim.Native.Nat.{◌+◌, ◌<◌}
use native.Mathlib.Omega.{arith}
use Rattle.answers.proofs.Written.{value-next, values-done}
use Rattle.c_open.specs.State.{words_of}
use Rattle.c_open.proofs.Back.{words-length, word_at}
use Rattle.c_open.proofs.put_bytes.Goals as goal

pub loop-i-preserved : goal.loop-i-preserved
loop-i-preserved c =
    let l = c.loop-i in
    let a = c.args in
    let words = words_of a.bytes.now in
    let near : l.i < 8 = omega (arith, c.loop-i-test.true) in
    rw (c.u64_at.ensures ∙ sym (word_at a.bytes.now l.i near))
    (value-next l.state words a.at l.i (omega (arith, words-length a.bytes.now, near)) ∙ l.invariant)

pub returns : goal.returns
returns c =
    let l = c.loop-i in
    let a = c.args in (
      sym (values-done l.state (words_of a.bytes.now) (a.at + l.i) l.i (omega (arith, words-length a.bytes.now))) ∙ l.invariant,
      c.told-bytes,
      c.fits-bytes,
    )
