-- `order::word_at` meets its contract: where fewer bytes are left, eight are as good as those of a word. Assumes nothing.
use Rattle.std.proofs.Common.{◌^◌, ◌∙◌, sym, arith, rules}
use native.Mathlib.Nat.{zero-mod}
use Rattle.order.proofs.Little.{little-past, little-lowest}
use Rattle.order.proofs.word_at.Goals as goal

pub returns-else-SIZE-n : goal.returns-else-SIZE-n
returns-else-SIZE-n g c =
    let a = c.args in
    let m = g.W.Word.SIZE in
    rw c.rest.ensures at c.lowest.ensures ∙ little-lowest a.s.now (search rules) a.at m g.met.W.Word.small (omega (arith, c.SIZE.ensures))

pub returns-else-at-n : goal.returns-else-at-n
returns-else-at-n g c =
    let a = c.args in
    let m = g.W.Word.SIZE in
    c.lowest-else-at-n.ensures ∙ zero-mod (256 ^ m) ∙ sym (little-past a.s.now a.at m (omega arith))
