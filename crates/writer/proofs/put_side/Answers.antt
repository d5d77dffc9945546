-- `writer::put_side` meets its contract: the ends that are chosen, as bytes, are the side. Assumes nothing.
use Prim.Native.Nat.{ℕ, suc, ◌+◌, ◌-◌, ◌≤◌, ◌<◌}
use mathlib.Core.Path.{◌≡◌, ◌∙◌}
use mathlib.Core.List.{List}
use native.Mathlib.Omega.{arith}
use lib.ListN.{length, get_or, take, drop, length-drop}
use lib.Seq.{take_all, get_or-drop}
use borrow.Author.Rules.{rules}
use Rattle.description.proofs.Sides.{range-bytes-most}
use Rattle.ranges.proofs.Reading.{ends-at-fit}
use Rattle.writer.specs.Code.Rows.{LeastEnds}
use Rattle.writer.proofs.Sides.{first-there, side-bytes}
use Rattle.writer.proofs.put_side.Goals as goal

-- the bytes of a level are those of the buffer
bytes_from : (out : List ℕ) (start : ℕ) → ((i : ℕ) → get_or out i 0 < 256) → (i : ℕ) → get_or (drop start out) i 0 < 256
bytes_from out start byte i = rw get_or-drop (byte (start + i))

-- the part that is lent is the level
level : (out : List ℕ) (start : ℕ) → take (length out - start) (drop start out) ≡ drop start out
level out start = take_all (length out - start) (drop start out) (simp length-drop (omega arith))

pub put_ends-requires : goal.put_ends-requires
put_ends-requires c =
    let x = c.args in
    let byte : (i : ℕ) → get_or x.out.now i 0 < 256 = λ i. search rules in
    let chosen : LeastEnds x.kind (drop x.start x.out.now) x.box_bytes x.side x.first (x.count - 1) c.least_side-ends.result =
    rw (level x.out.now x.start) at c.least_side-ends.ensures in
    let within : x.start ≤ length x.out.now = omega (arith, range-bytes-most x.kind, simp length-drop at (first-there c.requires.side_row)) in
    let fit = ends-at-fit (drop x.start x.out.now) (bytes_from x.out.now x.start byte) x.kind in
    record { low_bound = (rw chosen.0 (fit _).0, rw chosen.1 (fit _).1); kind_in_bounds = omega (arith, c.requires.kind_bound, within) }

pub returns : goal.returns
returns c =
    let x = c.args in
    let byte : (i : ℕ) → get_or x.out.now i 0 < 256 = λ i. search rules in
    let chosen : LeastEnds x.kind (drop x.start x.out.now) x.box_bytes x.side x.first (x.count - 1) c.least_side-ends.result =
    rw (level x.out.now x.start) at c.least_side-ends.ensures in
    let all : suc (x.count - 1) ≡ x.count = omega (arith, c.requires.side_row.some) in
    c.put_ends.ensures
    ∙ rw (
      chosen.0,
      chosen.1,
      side-bytes x.kind (drop x.start x.out.now) (bytes_from x.out.now x.start byte) x.box_bytes x.side x.first (x.count - 1) c.requires.side_row.inside (rw all c.requires.side_row.there),
    )
