-- `order::U32Word::of_le` meets its contract: the definition of `little`, written out. Assumes nothing.
use Rattle.std.proofs.Common.{◌∙◌, arith}
use native.Mathlib.Nat.{add_assoc}
use Rattle.order.specs.Little.{little}
use Rattle.order.proofs.U32Word.of_le.Goals as goal

pub returns : goal.returns
unfolding little
returns c = c.from_le_bytes.ensures ∙ simp add_assoc (omega arith)
