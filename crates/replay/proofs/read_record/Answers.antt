-- `replay::read_record` meets its contract: the ends, and the two numbers after them. Assumes nothing.
use Rattle.replay.proofs.Reading.{unread-sides, unread-end, unread-found, unread-looked, record-read}
use Rattle.replay.proofs.read_record.Goals as goal

pub returns-in_err-ends : goal.returns-in_err-ends
returns-in_err-ends c =
    let d = c.args.description in
    let line = c.args.line.now in
    rw c.from_residual.ensures (unread-sides d line c.in_err-ends.ensures)

pub returns-then-middle-second : goal.returns-then-middle-second
returns-then-middle-second c =
    let d = c.args.description in
    let line = c.args.line.now in
    let s = c.in_ok-ends.ensures in
    let a = c.piece_from-first.ensures in
    let b = c.piece_from-second.ensures in
    unread-end d line s a b c.if-middle-second.true

pub returns-in_err-found : goal.returns-in_err-found
returns-in_err-found c =
    let d = c.args.description in
    let line = c.args.line.now in
    let s = c.in_ok-ends.ensures in
    let a = c.piece_from-first.ensures in
    let b = c.piece_from-second.ensures in
    rw c.from_residual-in_err-found.ensures (unread-found d line s a b c.if-middle-second.false c.in_err-found.ensures)

pub returns-in_err-looked : goal.returns-in_err-looked
returns-in_err-looked c =
    let d = c.args.description in
    let line = c.args.line.now in
    let s = c.in_ok-ends.ensures in
    let a = c.piece_from-first.ensures in
    let b = c.piece_from-second.ensures in
    rw c.from_residual-in_err-looked.ensures (unread-looked d line s a b c.if-middle-second.false c.in_ok-found.ensures c.in_err-looked.ensures)

pub returns : goal.returns
returns c =
    let d = c.args.description in
    let line = c.args.line.now in
    let s = c.in_ok-ends.ensures in
    let a = c.piece_from-first.ensures in
    let b = c.piece_from-second.ensures in
    record-read d line s a b c.if-middle-second.false c.in_ok-found.ensures c.in_ok-looked.ensures
