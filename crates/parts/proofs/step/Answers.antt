-- `parts::step` meets its contract: what comes next is held in part, or stands whole in the bytes from which it is
-- taken. Assumes nothing.
use mathlib.Core.Path.{◌≡◌, refl, sym, ◌∙◌}
use Prim.Native.Nat.{◌≤◌, ◌<◌}
use native.Mathlib.Omega.{arith}
use lib.ListN.{length}
use Rattle.parts_state.specs.Code.State.{item_bytes}
use Rattle.description.specs.Description.{bytes_of_box}
use Rattle.parts.specs.Code.Steps.{held_of}
use Rattle.parts.proofs.Held.{item-most, part-holds, stands, whole-part, whole-least}
use Rattle.parts.proofs.step.Goals.{After-item_bytes-item, In_default, in_default-via-in-Some+else-kept-item, in_default-via-in_default}
use Rattle.parts.proofs.step.Goals as goal

-- the bytes of what comes next
facts : (c : After-item_bytes-item) → (let x = c.args in let item = c.item_bytes-item.result in
    (item ≡ item_bytes (bytes_of_box x.parts.description) x.cursor.counted) × (x.cursor.kept < item) × (item ≤ length x.held.now))
facts c =
    let x = c.args in
    let own : c.item_bytes-item.result ≡ item_bytes (bytes_of_box x.parts.description) x.cursor.counted = rw c.requires.box_bytes_value at c.item_bytes-item.ensures in (
      own,
      omega (arith, c.item_bytes-item.ensures, c.requires.in_range.part),
      omega (arith, own, item-most x.parts.description x.cursor.counted, c.requires.held_len),
    )

-- what is held of it is all of it
whole : (c : In_default) → (c.in_default.have ≡ c.gather-have.result) × (0 < held_of c.gather-have.result → c.item_bytes-item.result ≤ held_of c.gather-have.result)
whole c =
    elim c.in_default.branch [
      | in_default-via-in-Some+else-kept-item w ↦ (w.have-is ∙ sym w.in-Some.is, λ l. rw w.in-Some.is w.if-kept-item.false)
      | in_default-via-in_default w ↦ (w.have-is, λ l. absurd (omega (arith, rw w.in_default.is at l)))
    ]

pub gather-have-requires-clause-item_in_bounds : goal.gather-have-requires-clause-item_in_bounds
gather-have-requires-clause-item_in_bounds c = (facts (goal.at.gather-have-requires-clause-item_in_bounds c).After-item_bytes-item).2

pub whole_of-from-requires-clause-room : goal.whole_of-from-requires-clause-room
whole_of-from-requires-clause-room c =
    omega (arith, (facts (goal.at.whole_of-from-requires-clause-room c).After-item_bytes-item).2, c.gather-have.ensures.gathered.room)

pub take_item-requires-clause-whole : goal.take_item-requires-clause-whole
take_item-requires-clause-whole c =
    let f = facts (goal.at.take_item-requires-clause-whole c).After-item_bytes-item in
    let w = whole (goal.at.take_item-requires-clause-whole c).In_default in
    let least = whole-least c.gather-have.ensures.gathered f.1 f.2 w.1 (rw w.0 at c.whole_of-from.ensures) in
    rw c.keep-in_default.ensures (omega (arith, c.item_bytes-item.ensures, least))

pub returns-in-Some : goal.returns-in-Some
returns-in-Some c =
    let f = facts (goal.at.returns-in-Some c).After-item_bytes-item in
    let zero = c.requires.number_value in (
      record { to-hold = c.gather-have.ensures.gathered.room; to-work = refl },
      λ d F footer stated body p h r fits.
          let g = h.going zero in
          rw c.keep.ensures
          (part-holds g r c.requires.bytes_nonzero fits (rw g.description at f.0) f.2 c.in-Some.ensures.gathered zero (c.in-Some.ensures.some c.in-Some.kept refl) c.if-kept-item.true),
    )

pub returns-in_default : goal.returns-in_default
returns-in_default c =
    let f = facts (goal.at.returns-in_default c).After-item_bytes-item in
    let k = c.keep-in_default.ensures in
    let w = whole (goal.at.returns-in_default c).In_default in (
      record { to-hold = c.gather-have.ensures.gathered.room; to-work = c.take_item.ensures.room },
      λ d F footer stated body p h r fits.
          let g = h.going c.requires.number_value in
          let own = rw g.description at f.0 in
          let t = stands g r c.requires.bytes_nonzero fits own f.2 c.gather-have.ensures.gathered w.1 {from = c.whole_of-from.result.now} (rw w.0 at c.whole_of-from.ensures) in
          whole-part g r c.requires.bytes_nonzero fits own f.2 c.gather-have.ensures.gathered t
          (rw (k, ← c.item_bytes-item.ensures) at (c.take_item.ensures.took c.gather-have.new.held d F footer stated body t.start (rw k t.going) t.reads t.inside)),
    )
