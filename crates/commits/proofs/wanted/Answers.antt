-- `commits::wanted` meets its contract. Assumes nothing.
use mathlib.Core.Path.{sym, ◌∙◌}
use native.Mathlib.Omega.{arith}
use Rattle.text.specs.Text.{lines}
use Rattle.commits.specs.Records.{name_of}
use Rattle.commits.specs.Committed.{line_in, counts}
use Rattle.commits.specs.Code.Index.{row_at}
use Rattle.commits.proofs.Listed.{listed-other, listed-late, listed-counts, names-whole, row-chain, row-head, folder-kind, other-kind}
use Rattle.commits.proofs.wanted.Goals as goal

pub returns-then-ne : goal.returns-then-ne
returns-then-ne c =
    let x = c.args in
    let ls = lines x.text.now in
    let row = c.requires.0.table.row x.i c.requires.2 in
    let other = other-kind (row_at x.rows.now x.i).kind c.if-ne.ensures in
    listed-other x.time ls (line_in ls x.i) (λ z. other (row.kind ∙ z))

pub returns-then-time-row : goal.returns-then-time-row
returns-then-time-row c =
    let x = c.args in
    let ls = lines x.text.now in
    let row = c.requires.0.table.row x.i c.requires.2 in
    listed-late x.time ls (line_in ls x.i) (omega (arith, row.late, c.if-time-row.true))

pub offset_bounds-heads-row : goal.offset_bounds-heads-row
offset_bounds-heads-row c =
    omega (arith, row-chain c.requires.0 c.args.i c.requires.2)

pub bounds-heads-row : goal.bounds-heads-row
bounds-heads-row c =
    omega (arith, row-chain c.requires.0 c.args.i c.requires.2)

pub named-wrt-requires : goal.named-wrt-requires
named-wrt-requires c =
    (c.requires.0.table, c.requires.0.chains, row-head c.requires.0 c.args.i c.requires.2)

pub named-con-requires : goal.named-con-requires
named-con-requires c =
    (c.requires.0.table, c.requires.0.chains, row-head c.requires.0 c.args.i c.requires.2)

pub named-ign-requires : goal.named-ign-requires
named-ign-requires c =
    (c.requires.0.table, c.requires.0.chains, row-head c.requires.0 c.args.i c.requires.2)

pub returns : goal.returns
unfolding counts
returns c =
    let x = c.args in
    let ls = lines x.text.now in
    let l = line_in ls x.i in
    let row = c.requires.0.table.row x.i c.requires.2 in
    rw (
      names-whole 1 x.n ls _ (name_of l) _ c.requires.1 row.name c.named-wrt.ensures,
      names-whole 2 x.n ls _ (name_of l) _ c.requires.1 row.name c.named-con.ensures,
      names-whole 3 x.n ls _ (name_of l) _ c.requires.1 row.name c.named-ign.ensures,
    ) (listed-counts x.time ls l (sym row.kind ∙ folder-kind (row_at x.rows.now x.i).kind c.if-ne.ensures) (omega (arith, row.late, c.if-time-row.false)))
