-- `parts::finish` meets its contract: each way out is one of the answers. Assumes nothing.
use mathlib.Core.Path.{◌≡◌, refl, sym, ◌∙◌}
use Prim.Native.Nat.{◌-◌}
use native.Mathlib.Omega.{arith}
use lib.ListN.{length}
use lib.Seq.{take-length}
use Rattle.answers.specs.Told.{number_of}
use Rattle.parts_state.specs.Took.{Took}
use Rattle.parts.proofs.Ends.{ends-other, ends-fault, ends-accepted}
use Rattle.parts.proofs.finish.Goals as goal

pub returns-then-c-ne0 : goal.returns-then-c-ne0
unfolding Took
returns-then-c-ne0 c = λ d F footer stated got took.
    c.refused_in.ensures ∙ sym ((took got (take-length got)).decided c.if-c-ne0.true)

pub returns-then-c-eq0 : goal.returns-then-c-eq0
unfolding Took
returns-then-c-eq0 c = λ d F footer stated got took.
    c.finish_front.ensures d F footer stated got c.args.work.now c.if-c-eq0.true refl
    ((took got (take-length got)).going c.if-c-ne0.false)

pub returns-then-room-gt0 : goal.returns-then-room-gt0
unfolding Took number_of
returns-then-room-gt0 c = λ d F footer stated got took.
    let g = (took got (take-length got)).going c.if-c-ne0.false in
    let place : c.args.parts.stated - c.room_left-room.result ≡ length got =
    omega (arith, c.room_left-room.ensures, g.here, g.said, g.within) in
    c.refused_in-then-room-gt0.ensures
    ∙ rw (place, c.number.ensures)
    (sym (ends-other g (omega (arith, c.if-c-eq0.false)) (omega (arith, g.within))
    (λ e. omega (arith, c.if-room-gt0.true, c.room_left-room.ensures, g.here, g.said))))

pub returns-then-c-ne0-2 : goal.returns-then-c-ne0-2
unfolding Took
returns-then-c-ne0-2 c = λ d F footer stated got took.
    let g = (took got (take-length got)).going c.if-c-ne0.false in
    let all : length got ≡ stated = omega (arith, c.if-room-gt0.false, c.room_left-room.ensures, g.here, g.said, g.within) in
    c.refused_in-then-c-ne0-2.ensures
    ∙ sym (ends-fault g (omega (arith, c.if-c-eq0.false)) (omega arith) all c.if-c-ne0-2.true)

pub returns : goal.returns
unfolding Took
returns c = λ d F footer stated got took.
    let g = (took got (take-length got)).going c.if-c-ne0.false in
    let all : length got ≡ stated = omega (arith, c.if-room-gt0.false, c.room_left-room.ensures, g.here, g.said, g.within) in
    sym (ends-accepted g (omega (arith, c.if-c-eq0.false)) (omega arith) all c.if-c-ne0-2.false)

pub overflow_sub-parts : goal.overflow_sub-parts
overflow_sub-parts c = omega (arith, c.room_left-room.ensures)
