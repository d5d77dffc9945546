-- `var_values::starts_rise` meets its contract: what the test says of each start. Assumes nothing.
use Rattle.std.proofs.Common.{◌+◌, sym, ◌∙◌, rules}
use borrow.Author.Tests.{leb-true}
use Rattle.lists.specs.Lists.{entry}
use Rattle.var_values.proofs.starts_rise.Goals as goal

pub returns-then-word_at-eq0 : goal.returns-then-word_at-eq0
returns-then-word_at-eq0 c = λ e. (
  sym c.word_at.ensures ∙ c.if-word_at-eq0.true,
  λ i l.
      let s = c.args.body.now in
      let h = c.all_hold_by_eights.ensures.holds e i l in
      leb-true (entry s i) (entry s (i + 1)) (search (rules, h)),
)
