-- `parts::take_front` meets its contract: what the first eight bytes show is refused for good; where they show nothing
-- the state stands at the root's count. Assumes nothing.
use mathlib.Core.Path.{◌≡◌, sym, ap, ◌∙◌}
use Rattle.answers.specs.Told.{told}
use Rattle.answers.proofs.Told.{refuses, ok-clear}
use mathlib.Core.List.{List}
use Prim.Native.Nat.{ℕ}
use native.Mathlib.Omega.{arith}
use lib.ListN.{length}
use Rattle.description.specs.declared.Description.{Description}
use Rattle.tree.specs.Shape.{levels}
use Rattle.rtree.proofs.Passed.{box-bytes-most}
use Rattle.parts_state.specs.Code.State.{Going}
use Rattle.parts.specs.Code.Cursor.{with_cursor}
use Rattle.parts.specs.Code.Steps.{Reads}
use Rattle.parts.proofs.Front.{fanout-read, levels-read, front, front-said, front-refused, front-has, front-passed}
use Rattle.parts.proofs.take_front.Goals.{After-check_front-checked}
use Rattle.parts.proofs.take_front.Goals as goal

pub check_front-checked-requires : goal.check_front-checked-requires
check_front-checked-requires c =
    rw c.requires.box_bytes_value (box-bytes-most c.args.parts.description)

-- what is told of the first eight bytes
said : (c : After-check_front-checked) (held work : List ℕ) → (let q = with_cursor c.args.parts held c.args.cursor in
    length work ≡ c.args.room
    → (d : Description) (F : ℕ) (footer : List ℕ) (stated : ℕ) (body : List ℕ) (p : ℕ)
    → (zero : c.args.cursor.number ≡ 0) (g : Going d F footer stated body work q p)
    → (kept : c.args.cursor.kept ≡ 0) (r : Reads body p c.args.bytes.now)
    → told c.check_front-checked.result ≡ front g zero c.requires.fanout_value kept r c.requires.bytes_len)
said c held work size d F footer stated body p zero g kept r =
    front-said g zero c.requires.fanout_value kept r c.requires.bytes_len c.requires.box_bytes_value
    c.u32_at-fanout.ensures c.u32_at-levels.ensures
    (rw (← size) at c.check_front-checked.ensures)

pub returns-in-Err : goal.returns-in-Err
unfolding told
returns-in-Err c = λ held work size d F footer stated body p zero g kept r fits.
    rw (c.refuse.ensures, c.which_of.ensures, c.requires.bytes_len)
    (front-refused g zero c.requires.fanout_value kept r c.requires.bytes_len
    (sym (ap told c.in-Err.is) ∙ said (goal.at.returns-in-Err c).After-check_front-checked held work size d F footer stated body p zero g kept r) (refuses c.in-Err.e))

pub returns-in-Ok : goal.returns-in-Ok
unfolding levels
returns-in-Ok c = λ held work size d F footer stated body p zero g kept r fits.
    let all = said (goal.at.returns-in-Ok c).After-check_front-checked held work size d F footer stated body p zero g kept r in
    -- what the first eight bytes have to be
    let h = front-has g zero c.requires.fanout_value kept r c.requires.bytes_len (ok-clear all c.in-Ok.is) in
    let l = c.u32_at-levels.ensures ∙ levels-read g zero c.requires.fanout_value kept r c.requires.bytes_len in
    rw (c.fronted.ensures, c.requires.bytes_len)
    (front-passed g zero c.requires.fanout_value kept r c.requires.bytes_len h
    (c.u32_at-fanout.ensures ∙ fanout-read g zero c.requires.fanout_value kept r c.requires.bytes_len) l
    (omega (arith, l, h.leveled, c.saturating_sub.ensures)))
