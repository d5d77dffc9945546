-- `c_query::ask_all` meets its contract. The invariant: after i windows the places used, the buffer and the answer run are what the batch has after i
-- windows. Assumes nothing.
use Prim.Native.Nat.{◌<◌}
use mathlib.Core.Path.{◌≡◌, refl, ap, sym, ◌∙◌}
use native.Mathlib.Omega.{arith}
use lib.ListN.{length}
use Rattle.answers.specs.Runs.{over}
use Rattle.c_query.specs.Lent.{windows_of}
use Rattle.c_query.proofs.Lent.{windows-length, window-at, buffer-done, same-places, turn-used, turn-buffer, not-fewer, turn-record}
use Rattle.c_query.proofs.ask_all.Goals as goal

pub loop-i-init : goal.loop-i-init
unfolding over
loop-i-init c = (refl, (refl, refl))

pub put_record-requires : goal.put_record-requires
put_record-requires c =
    let a = c.args in
    let i = c.loop-i.i in
    let ws = windows_of a.d a.window_kinds.now a.windows.now a.count in
    let there : i < a.count = omega arith in
    let inv = c.loop-i.invariant in
    let all : length c.loop-i.answers ≡ length a.answers.now =
    ap length inv.1.1 ∙ same-places a.d a.tiles a.tree.now ws a.out.now a.answers.now i (omega (arith, c.requires.1.1))
    in (
      omega (arith, c.requires.1.1),
      not-fewer a.d a.tiles a.tree.now ws a.out.now i (rw (windows-length a.d a.window_kinds.now a.windows.now a.count) there)
          (c.window_at-window.ensures ∙ sym (window-at a.d a.window_kinds.now a.windows.now a.count i there))
          inv.0 inv.1.0 c.ask_from-asked.ensures.asked,
    )

pub loop-i-preserved : goal.loop-i-preserved
loop-i-preserved c =
    let a = c.args in
    let i = c.loop-i.i in
    let ws = windows_of a.d a.window_kinds.now a.windows.now a.count in
    let there : i < a.count = c.loop-i-test.true in
    let inv = c.loop-i.invariant in
    let h : i < length ws = rw (windows-length a.d a.window_kinds.now a.windows.now a.count) there in
    let this =
    c.window_at-window.ensures
    ∙ sym (window-at a.d a.window_kinds.now a.windows.now a.count i there)
    in
    let asked = c.ask_from-asked.ensures in (
      turn-used a.d a.tiles a.tree.now ws a.out.now i h this inv.0 inv.1.0 asked.asked,
      (
        turn-buffer a.d a.tiles a.tree.now ws a.out.now i h this inv.0 inv.1.0 asked.asked asked.buffer,
        turn-record a.d a.tiles a.tree.now ws a.out.now i h this inv.0 inv.1.0 asked.asked a.answers.now
            (omega (arith, c.requires.1.1)) inv.1.1 c.put_record.ensures,
      ),
    )

pub returns-clause-answers : goal.returns-clause-answers
returns-clause-answers c =
    let a = c.args in
    let done : c.loop-i.i ≡ a.count = omega arith in
    c.loop-i.invariant.1.1 ∙ rw (done, windows-length a.d a.window_kinds.now a.windows.now a.count)

pub returns-clause-buffer : goal.returns-clause-buffer
returns-clause-buffer c =
    let a = c.args in
    let done : c.loop-i.i ≡ a.count = omega arith in
    c.loop-i.invariant.1.0 ∙ rw done (buffer-done a.d a.window_kinds.now a.windows.now a.count a.tiles a.tree.now a.out.now)
