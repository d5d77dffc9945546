-- `tile_counts::first_above` meets its contract. The invariant: the counts from i on decide. Assumes nothing.
use mathlib.Core.Path.{◌≡◌, sym, ◌∙◌}
use mathlib.Core.List.{List}
use Prim.Native.Nat.{ℕ, ◌+◌, ◌*◌, ◌≤◌, ◌<◌}
use native.Mathlib.Omega.{arith}
use lib.ListN.{length}
use borrow.Author.Tests.{lt-ltb, le-ltb}
use Rattle.answers.specs.Told.{told, number_of}
use Rattle.lists.specs.Lists.{entry}
use Rattle.lists.proofs.Header.{sound}
use Rattle.entries.proofs.Entries.{entries-decide}
use Rattle.tile_counts.specs.Counts.{counts_refusal}
use Rattle.tile_metadata.specs.Bodies.{value_of}
use Rattle.tile_metadata.proofs.Turns.{kept, broken, all-kept}
use Rattle.tile_counts.proofs.first_above.Goals as goal

-- a count that is there is the list's entry
entry-told : {r : ℕ} (n i : ℕ) (s : List ℕ) → i < n → r ≡ value_of 8 n s i → r ≡ entry s i
unfolding value_of
entry-told n i s h e = rw (lt-ltb i n h) at e

pub returns-then-cells-eight_at : goal.returns-then-cells-eight_at
unfolding counts_refusal told number_of
returns-then-cells-eight_at c =
    let a = c.args in
    let told = entry-told a.tiles c.loop-i.i a.body.now c.loop-i-test.true c.eight_at.ensures in
    let above = lt-ltb _ _ (rw (c.cells_at-cells.ensures, told) at c.if-cells-eight_at.true) in
    rw c.at.ensures
    (broken c.loop-i.invariant c.loop-i-test.true (omega arith) above ∙ sym (entries-decide _ _ _ _ c.requires))

pub loop-i-preserved : goal.loop-i-preserved
loop-i-preserved c =
    let a = c.args in
    let told = entry-told a.tiles c.loop-i.i a.body.now c.loop-i-test.true c.eight_at.ensures in
    let not-above = le-ltb _ _ (rw (c.cells_at-cells.ensures, told) at c.if-cells-eight_at.false) in
    kept c.loop-i.invariant c.loop-i-test.true not-above

pub returns : goal.returns
unfolding counts_refusal told
returns c =
    all-kept c.loop-i.invariant c.loop-i-test.false
    ∙ sym (entries-decide _ _ _ _ c.requires)

pub overflow_mul-i : goal.overflow_mul-i
overflow_mul-i c =
    let reaches : 16 + 8 * c.loop-i.i ≤ length c.args.body.now
    = let known = sound _ 8 _ c.requires in
    omega arith in
    record { fits = omega (arith, reaches) }

pub overflow_add-i : goal.overflow_add-i
overflow_add-i c =
    let reaches : 16 + 8 * c.loop-i.i ≤ length c.args.body.now
    = let known = sound _ 8 _ c.requires in
    omega arith in
    record { fits = omega (arith, reaches) }
