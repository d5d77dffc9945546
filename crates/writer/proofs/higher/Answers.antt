-- `writer::higher` meets its contract: one test, of the keys; of int32 ends in their four bytes. Assumes nothing.
use Prim.Native.Nat.{ℕ, ◌%◌, ◌^◌, ◌<◌}
use mathlib.Core.Path.{◌≡◌, ◌∙◌}
use mathlib.Core.Bool.{cond}
use lib.Dec.{ltb}
use Rattle.description.specs.declared.Kind.{Kind}
use Rattle.description.specs.declared.Kind.TheVariants.{Int32}
use Rattle.description.specs.Kinds.{end_bytes, key}
use Rattle.ranges.proofs.Comparing.{when-known}
use Rattle.ranges.proofs.Reading.{fitted-same}
use Rattle.writer.proofs.higher.Goals as goal

-- the lowest four bytes of an int32 end
whole : (k : Kind) (p : ℕ) {x : ℕ} → k ≡ Int32 → p < 256 ^ end_bytes k → x ≡ p % 256 ^ 4 → x ≡ p
whole k p e h q = q ∙ fitted-same Int32 p (rw e at h)

pub returns-in-Int32 : goal.returns-in-Int32
unfolding key
returns-in-Int32 c =
    let e = c.in-Int32.is in
    let best = whole c.args.kind c.args.best e c.requires.0 c.low_four.ensures in
    let next = whole c.args.kind c.args.next e c.requires.1 c.low_four-in-Int32.ensures in
    when-known (λ k. cond (ltb (key k c.args.best) (key k c.args.next)) c.args.next c.args.best) e (c.higher_i32.ensures ∙ rw (best, next))
