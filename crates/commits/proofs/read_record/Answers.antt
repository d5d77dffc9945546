-- `commits::read_record` meets its contract. Assumes nothing.
use Prim.Native.Nat.{◌+◌, ◌-◌}
use mathlib.Core.Path.{◌≡◌, ap, sym, ◌∙◌}
use native.Mathlib.Omega.{arith}
use lib.ListN.{length, drop, length-drop}
use lib.Seq.{take_all}
use Rattle.text.specs.Text.{tab, part}
use Rattle.text.proofs.Parts.{first-start, start-after, part-there, all_there, more-there}
use Rattle.commits.specs.Records.{kind_number, kind_of, name_of}
use Rattle.commits.proofs.Read.{record-long, record-other, record-unkind, record-unnamed, record-read, name-none}
use Rattle.commits.proofs.read_record.Goals as goal

pub returns-then-size-gt-MOST_BYTES : goal.returns-then-size-gt-MOST_BYTES
returns-then-size-gt-MOST_BYTES c = record-long c.args.line.now (omega arith)

pub returns-then-end-size : goal.returns-then-end-size
returns-then-end-size c =
    let t = c.args.line.now in
    let s0 = first-start tab t in
    let q0 = c.piece_end-first.ensures.0 in
    let s1 = start-after tab t 0 s0 q0 in
    let q1 = c.piece_end-end.ensures.0 in
    record-other t (more-there tab t 1 s1 q1 c.if-end-size.true)

pub returns-in_err-kind : goal.returns-in_err-kind
unfolding kind_of
returns-in_err-kind c =
    let t = c.args.line.now in
    let a : c.piece_end-first.result - 0 ≡ c.piece_end-first.result = omega arith in
    let e = rw a at (part-there tab t 0 (first-start tab t) c.piece_end-first.ensures.0) in
    rw c.from_residual.ensures (record-unkind t (c.in_err-kind.ensures ∙ ap kind_number e))

pub returns-in_err-time : goal.returns-in_err-time
unfolding name_of
returns-in_err-time c =
    let t = c.args.line.now in
    let s1 = start-after tab t 0 (first-start tab t) c.piece_end-first.ensures.0 in
    let e = part-there tab t 1 s1 c.piece_end-end.ensures.0 in
    rw c.from_residual-in_err-time.ensures (record-unnamed t (name-none (part tab 1 t) (rw e at c.in_err-time.ensures)))

pub returns : goal.returns
unfolding kind_of name_of
returns c =
    let t = c.args.line.now in
    let s0 = first-start tab t in
    let q0 = c.piece_end-first.ensures.0 in
    let s1 = start-after tab t 0 s0 q0 in
    let q1 = c.piece_end-end.ensures.0 in
    let a : c.piece_end-first.result - 0 ≡ c.piece_end-first.result = omega arith in
    let e = rw a at (part-there tab t 0 s0 q0) in
    let s = c.piece_end-first.result + 1 in
    let z : c.piece_end-end.result ≡ length t = c.if-end-size.false in
    let name : drop s t ≡ part tab 1 t =
    sym (take_all (c.piece_end-end.result - s) (drop s t) (simp length-drop (omega arith))) ∙ part-there tab t 1 s1 q1 in
    record-read t (omega arith) (all_there tab t 1 s1 q1 z) c.in_ok-kind.kind s c.in_ok-time.time
    (c.in_ok-kind.ensures ∙ ap kind_number e) (omega arith) name
    (rw (part-there tab t 1 s1 q1) at c.in_ok-time.ensures)
