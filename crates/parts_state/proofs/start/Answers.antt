-- `parts_state::start` meets its contract: what is refused stands for good, or nothing has come yet. Assumes nothing.
use mathlib.Core.Path.{◌≡◌}
use Prim.Native.Nat.{◌+◌, ◌≤◌}
use native.Mathlib.Omega.{arith}
use lib.ListN.{length, length-take}
use Rattle.footer.proofs.Passed.{ready}
use Rattle.rtree.proofs.Passed.{box-bytes-most}
use Rattle.answers.specs.Told.{number_of}
use Rattle.parts_state.specs.Took.{Took}
use Rattle.parts_state.proofs.Starts.{starts-footer, starts-short, starts-blank}
use Rattle.parts_state.proofs.start.Goals as goal
use Rattle.parts_state.proofs.start.Goals.{After-box_bytes}

pub returns-then-checked-ne0 : goal.returns-then-checked-ne0
unfolding Took
returns-then-checked-ne0 c = λ work body begins.
    let x = c.args in
    starts-footer x.description x.file_size x.footer.now x.stated c.check-checked.ensures body work _ c.if-checked-ne0.true

pub returns-then-stated-lt8 : goal.returns-then-stated-lt8
unfolding Took number_of
returns-then-stated-lt8 c = λ work body begins.
    let x = c.args in
    rw c.number.ensures
    (starts-short x.description x.file_size x.footer.now x.stated c.check-checked.ensures body work c.if-checked-ne0.false _ c.if-stated-lt8.true)

pub padded-requires : goal.padded-requires
padded-requires c =
    let x = c.args in
    rw length-take (omega (arith, c.box_bytes.ensures, box-bytes-most x.description))

pub returns : goal.returns
unfolding Took
returns c = λ work body begins.
    let x = c.args in
    starts-blank x.description x.file_size x.footer.now x.stated c.check-checked.ensures body work c.if-checked-ne0.false
    c.box_bytes.ensures c.padded.ensures c.if-stated-lt8.false

-- the domain's box is there
there : (c : After-box_bytes) → c.check-checked.result.number ≡ 0
    → c.check-checked.result.domain + c.box_bytes.result ≤ length c.args.footer.now
there c none =
    let x = c.args in
    let r = ready x.description x.file_size x.footer.now c.check-checked.result c.check-checked.ensures none in
    omega (arith, r.domain-there, c.box_bytes.ensures)

pub overflow_add-to : goal.overflow_add-to
overflow_add-to c =
    let fits = there (goal.at.overflow_add-to c).After-box_bytes c.if-checked-ne0.false in
    omega arith

pub slice_bounds-padded-end : goal.slice_bounds-padded-end
slice_bounds-padded-end c = there (goal.at.slice_bounds-padded-end c).After-box_bytes c.if-checked-ne0.false
