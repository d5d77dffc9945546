-- `parts::open_in_blocks` meets its contract. The loop's invariant: state and work buffer have taken the bytes before
-- those that the iterator still has. Assumes nothing.
use mathlib.Core.Path.{◌≡◌}
use mathlib.Core.List.{List, ◌++◌}
use Prim.Native.Nat.{ℕ}
use lib.ListN.{length}
use Rattle.description.specs.declared.Description.{Description}
use Rattle.parts_state.specs.Took.{Took, Starts}
use Rattle.parts.proofs.open_in_blocks.Given as goal

abbrev pub invariant-loop-bytes : goal.invariant-loop-bytes
invariant-loop-bytes l =
    (length l.work ≡ length l.initial.work)
    × ((d : Description) → Starts d l.file_size l.footer (length l.body) l.initial.s
    → (got : List ℕ) × (got ++ l.bytes-iterator.rest.now ≡ l.body) × Took d l.file_size l.footer (length l.body) got l.s l.work)
