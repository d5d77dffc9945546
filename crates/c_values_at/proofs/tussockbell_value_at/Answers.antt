-- `c_values_at::tussockbell_value_at` meets its contract: by whether the number is a kind's. Assumes nothing.
use borrow.Author.Tests.{eq-eqb, ne_eqb}
use mathlib.Core.Path.{sym, ap, ◌∙◌}
use Rattle.description.specs.Kinds.{datatype}
use Rattle.c_values_at.specs.Places.{numbered_pattern}
use Rattle.c_values_at.proofs.tussockbell_value_at.Goals as goal

pub returns-then-kind-datatype : goal.returns-then-kind-datatype
unfolding numbered_pattern
returns-then-kind-datatype c =
    let k = c.of-known.ensures in
    rw (eq-eqb _ _ (c.if-kind-datatype.true ∙ c.datatype.ensures ∙ ap datatype k)) (c.value_at.ensures ∙ rw k)

pub returns-else-kind-datatype : goal.returns-else-kind-datatype
unfolding numbered_pattern
returns-else-kind-datatype c =
    let k = c.of-known.ensures in
    rw (ne_eqb _ _ (λ z. c.if-kind-datatype.false (z ∙ sym (c.datatype.ensures ∙ ap datatype k))))
