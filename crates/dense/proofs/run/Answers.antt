-- `dense::run` meets its contract. Where the loop stops, the run or the buffer is at its end.
-- Assumes nothing.
use mathlib.Core.List.{List, [], ◌∷◌}
use Prim.Native.Nat.{ℕ, ◌≤◌, ◌<◌}
use native.Mathlib.Decide.{dec_le}
use native.Mathlib.Omega.{arith}
use lib.ListN.{length}
use Rattle.dense.specs.Code.Spans.{Filled}
use Rattle.dense.proofs.Storing.{Left, same_size, no_room, filled_next, all-stored, stored_one}
use Rattle.dense.proofs.run.Invariants.{these}
use Rattle.dense.proofs.run.Goals as goal

pub loop-t-preserved : goal.loop-t-preserved
loop-t-preserved c =
    let l = c.loop-t in
    let n = filled_next (λ i. i ∷ []) l.t _ (omega arith) l.invariant.3 (stored_one l.out l.next l.t) in
    (omega arith, l.invariant.1, same_size n, n)

ended : {before : List ℕ} {at : ℕ} {xs now : List ℕ} {next : ℕ} (t end : ℕ) → Dec (end ≤ t) → (t < end → length now ≤ next)
    → Left before at xs now next (these t end) → Filled before at xs now next
ended t end (yes h) full l = all-stored (λ i. i ∷ []) t end h l
ended t end (no h) full l = no_room l (full (omega arith))

pub returns : goal.returns
returns c =
    let l = c.loop-t in
    ended l.t _ (dec_le _ l.t) (λ h. omega arith) l.invariant.3
