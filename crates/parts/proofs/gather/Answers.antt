-- `parts::gather` meets its contract: nothing is held of what stands whole in the block; of the rest, the bytes go after
-- those that are held already. Assumes nothing.
use mathlib.Core.Path.{◌≡◌, sym, ap, ◌∙◌}
use Prim.Native.Nat.{ℕ, ◌+◌, ◌-◌, ◌≤◌, ◌<◌}
use native.Mathlib.Omega.{arith}
use lib.ListN.{length, take, length-take}
use lib.Seq.{sets, length-sets}
use Rattle.order.proofs.Stores.{bytes-stored}
use Rattle.parts.proofs.gather.Goals.{After-lesser-more}
use Rattle.parts.proofs.gather.Goals as goal

-- how many bytes are held then
facts : (c : After-lesser-more) → (let x = c.args in let more = c.lesser-more.result in
    (0 < more) × (more ≤ length x.bytes.now) × (length (take more x.bytes.now) ≡ more)
    × (x.kept + length (take more x.bytes.now) ≤ length x.held.now))
facts c =
    let x = c.args in
    let few : c.lesser-more.result ≤ length x.bytes.now = omega (arith, c.lesser-more.ensures) in
    let size : length (take c.lesser-more.result x.bytes.now) ≡ c.lesser-more.result = rw length-take (omega (arith, few)) in
    (omega (arith, c.lesser-more.ensures, c.requires.kept_lt_item, c.requires.bytes_nonzero), few, size, omega (arith, size, c.lesser-more.ensures, c.requires.kept_lt_item, c.requires.item_in_bounds))

pub returns-clause-gathered : goal.returns-clause-gathered
returns-clause-gathered c =
    let x = c.args in
    let f = facts (goal.at.returns-clause-gathered c).After-lesser-more in
    let more = take c.lesser-more.result x.bytes.now in
    let after = c.copy.new.out in
    let put : after ≡ sets x.held.now x.kept more =
    bytes-stored x.held.now after x.kept more f.3 c.copy.ensures in
    let is : x.kept + c.lesser-more.result - x.kept ≡ c.lesser-more.result = omega arith in
    record {
      room = ap length put ∙ simp length-sets;
      none = λ z. absurd (omega (arith, f.0));
      some = λ _. ap (λ (m : ℕ). x.kept + m) c.lesser-more.ensures;
      pasted = rw is put;
    }

pub returns-clause-some : goal.returns-clause-some
returns-clause-some c = λ have e.
    let f = facts (goal.at.returns-clause-some c).After-lesser-more in
    let is : c.args.kept + c.lesser-more.result ≡ have = cc in
    omega (arith, f.0, is)

pub slice_bounds-copy-end : goal.slice_bounds-copy-end
slice_bounds-copy-end c = sym (facts (goal.at.slice_bounds-copy-end c).After-lesser-more).2
