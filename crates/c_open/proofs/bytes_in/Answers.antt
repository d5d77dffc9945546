-- `c_open::bytes_in` meets its contract: the bytes of one place more a turn, after those before them. Assumes nothing.
use mathlib.Core.Path.{◌≡◌, refl, ap, ◌∙◌}
use mathlib.Core.List.{[], ◌++◌, append_assoc, append-nil}
use Prim.Native.Nat.{ℕ, ◌+◌, ◌*◌, ◌≤◌}
use native.Mathlib.Nat.{zero-add}
use native.Mathlib.Numerals.{add-one}
use native.Mathlib.Omega.{arith}
use borrow.Author.Tests.{le-leb}
use lib.ListN.{length, replicate, length-replicate}
use lib.Seq.{length-sets}
use Rattle.answers.specs.Runs.{over, join}
use Rattle.answers.proofs.Runs.{over-snoc}
use Rattle.answers.proofs.Written.{begun, more, whole}
use Rattle.order.proofs.Bytes.{bytes-length}
use Rattle.c_open.specs.State.{bytes_in}
use Rattle.c_open.proofs.bytes_in.Invariants.{place}
use Rattle.c_open.proofs.bytes_in.Goals as goal

pub loop-i-init : goal.loop-i-init
unfolding over
loop-i-init c = begun (replicate 64 0)

pub loop-i-preserved : goal.loop-i-preserved
loop-i-preserved c =
    let long : length c.loop-i.bytes ≡ 64
    = ap length c.loop-i.invariant.holds ∙ length-sets {A = ℕ} (replicate 64 0) 0 (join (place c.args.state.now c.args.at) 0 c.loop-i.i) ∙ length-replicate {A = ℕ} 64 0 in
    let l = c.loop-i in
    let x = c.args in
    let fits : l.i * 8 + 8 ≤ length l.bytes = omega (arith, long, c.loop-i-test.true) in
    let put = rw (le-leb _ _ fits) at c.put_u64.ensures in
    let next = more l.invariant (place x.state.now x.at l.i) put (bytes-length 8 _) in
    let here : l.i * 8 + 8 ≡ (l.i + 1) * 8 = omega arith in
    let all : join (place x.state.now x.at) 0 (l.i + 1) ≡ join (place x.state.now x.at) 0 l.i ++ place x.state.now x.at l.i =
    ap (join (place x.state.now x.at) 0) (add-one l.i) ∙ over-snoc ◌++◌ [] append_assoc (λ a. refl) append-nil (place x.state.now x.at) 0 l.i ∙ rw zero-add in
    rw (all, ← here) next

pub returns : goal.returns
unfolding bytes_in
returns c =
    let all : c.loop-i.i ≡ 8 = omega arith in
    whole (rw all at c.loop-i.invariant) (length-replicate {A = ℕ} 64 0)
