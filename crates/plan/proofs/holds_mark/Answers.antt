-- `plan::holds_mark` meets its contract: where all four words are 0, no bit of the 32 bytes is set. Assumes nothing.
use Rattle.std.proofs.Common.{◌≡◌, ℕ, false, not, eqb, sym, ◌∙◌, eqb-true}
use borrow.Author.Tests.{not-false}
use mathlib.Core.Bool.{true≢false}
use Rattle.plan.proofs.Words.{four-none}
use Rattle.plan.proofs.holds_mark.Goals as goal
use Rattle.plan.proofs.holds_mark.Goals.{then-u64_at-ne0, else-u64_at-ne0, then-u64_at-ne0-2, else-u64_at-ne0-2}

word-none : {r w : ℕ} → r ≡ w → not (eqb r 0) ≡ false → w ≡ 0
word-none {r} is none = sym is ∙ eqb-true r 0 (not-false _ none)

pub returns-else-u64_at-ne0-3 : goal.returns-else-u64_at-ne0-3
returns-else-u64_at-ne0-3 c e =
    let none = c.if-u64_at-ne0-3.false in
    elim c.if-u64_at-ne0-2.branch [
      | then-u64_at-ne0-2 w ↦ absurd (true≢false (sym w.if-u64_at-ne0-2.true ∙ sym w.value-is ∙ none))
      | else-u64_at-ne0-2 w ↦ elim c.if-u64_at-ne0.branch [
        | then-u64_at-ne0 v ↦ absurd (v.if-u64_at-ne0.true (eqb-true _ 0 (not-false _ (sym v.value-is ∙ w.if-u64_at-ne0-2.false))))
        | else-u64_at-ne0 v ↦ four-none c.args.marks.now c.type_inv.marks c.args.at
            (sym c.u64_at.ensures ∙ v.if-u64_at-ne0.false)
            (word-none v.u64_at-else-u64_at-ne0.ensures (sym v.value-is ∙ w.if-u64_at-ne0-2.false))
            (word-none w.u64_at-else-u64_at-ne0-2.ensures (sym w.value-is ∙ none))
            (word-none c.u64_at-else-u64_at-ne0-3.ensures e)
      ]
    ]
