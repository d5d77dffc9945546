-- `text::write` meets its contract: the bytes that fall into the buffer are one part of the word, and one of the buffer.
-- Assumes nothing.
use Rattle.std.proofs.Common.{◌≡◌, ◌+◌, ◌-◌, arith, refl}
use Rattle.text.specs.Write.{seen}
use Rattle.text.proofs.Writing.{stored}
use Rattle.text.proofs.write.Goals as goal

pub returns : goal.returns
unfolding seen
returns c =
    let x = c.args in
    let n = c.min-count.result in
    let k : c.min-place.result + n - c.min-place.result ≡ n = omega arith in
    let j : c.min-skipped.result + n - c.min-skipped.result ≡ n = omega arith in
    let done = stored x.out.now x.word.now c.saturating_sub-2.result c.saturating_sub.result c.min-place.ensures c.min-skipped.ensures c.min-count.ensures k j in
    (refl, rw (c.copy_from_slice.ensures.after, ← c.saturating_sub-2.ensures, ← c.saturating_sub.ensures) done)
