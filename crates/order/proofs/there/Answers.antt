-- `order::there` meets its contract: the bytes of the part, each by itself, are those of the whole from there on. Assumes
-- nothing.
use Rattle.std.proofs.Common.{◌∙◌, ◌+◌, ◌-◌, take, drop, arith}
use native.Mathlib.Nat.{add-zero}
use Rattle.order.proofs.Little.{little-eight, little-part}
use Rattle.order.proofs.there.Goals as goal

pub returns : goal.returns
returns g c =
    let a = c.args in
    let m = g.W.Word.SIZE in
    let k = a.at + c.SIZE.result - a.at in
    let part = take k (drop a.at a.s.now) in
    c.of_le.ensures
    ∙ rw (c.byte.ensures, c.byte-2.ensures, c.byte-3.ensures, c.byte-4.ensures, c.byte-5.ensures, c.byte-6.ensures, c.byte-7.ensures, c.byte-8.ensures)
    (little-eight part m g.met.W.Word.small ∙ little-part a.s.now a.at k 0 m (omega (arith, c.SIZE.ensures)) ∙ rw add-zero)
