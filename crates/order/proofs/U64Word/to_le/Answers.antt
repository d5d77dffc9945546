-- `order::U64Word::to_le` meets its contract: the definition of `bytes_of`, written out. Assumes nothing.
use Rattle.std.proofs.Common.{take, ap, ◌∙◌}
use native.Mathlib.Nat.{div-div-eq-div-mul}
use Rattle.order.specs.Little.{bytes_of}
use Rattle.order.proofs.U64Word.to_le.Goals as goal

pub returns : goal.returns
unfolding bytes_of
returns c = ap (take 8) c.to_le_bytes.ensures ∙ simp div-div-eq-div-mul
