-- `commits::index` meets its contract. Assumes nothing.
use mathlib.Core.Path.{sym, ◌∙◌}
use native.Mathlib.Omega.{arith}
use Rattle.text.proofs.Lines.{end-inside}
use Rattle.commits.proofs.Indexing.{line-many, bad-said, progress_start, refused-at, all_read, bad-line, again, one_more}
use Rattle.commits.proofs.index.Goals as goal

pub loop-at-init : goal.loop-at-init
loop-at-init c = progress_start c.requires

pub returns-then-n-eq-MOST_LINES : goal.returns-then-n-eq-MOST_LINES
returns-then-n-eq-MOST_LINES c =
    refused-at c.loop-at.invariant c.loop-at-test.true c.at.result
    (bad-said c.loop-at.n c.at.ensures ∙ sym (line-many _ c.loop-at.n (omega (arith, c.if-n-eq-MOST_LINES.true))))

pub slice_bounds-read_record-end : goal.slice_bounds-read_record-end
slice_bounds-read_record-end c =
    omega (arith, end-inside _ c.loop-at.n c.loop-at.invariant.here c.piece_end-end.ensures.0 (omega arith))

pub returns-in_default : goal.returns-in_default
returns-in_default c =
    bad-line c.loop-at.invariant c.piece_end-end.result c.loop-at-test.true c.if-n-eq-MOST_LINES.false c.piece_end-end.ensures.0
    c.in_default.ensures c.at-in_default.result c.at-in_default.ensures

pub returns-then-named : goal.returns-then-named
returns-then-named c =
    again c.loop-at.invariant c.piece_end-end.result c.loop-at-test.true c.if-n-eq-MOST_LINES.false c.piece_end-end.ensures.0
    c.in-Some.record c.in-Some.ensures c.named.result c.named.ensures c.if-named.true c.at-then-named.result c.at-then-named.ensures

pub loop-at-preserved : goal.loop-at-preserved
loop-at-preserved c =
    one_more c.loop-at.invariant c.piece_end-end.result c.loop-at-test.true c.if-n-eq-MOST_LINES.false c.piece_end-end.ensures.0
    c.in-Some.record c.in-Some.ensures c.named.result c.named.ensures c.if-named.false c.chain_of-chain.result c.after-at.result
    c.chain_of-chain.ensures.0 c.chain_of-chain.ensures.1 c.after-at.ensures

pub returns : goal.returns
returns c = all_read c.loop-at.invariant c.loop-at-test.false
