-- `writer::ends_at` meets its contract: the part that is read has the range whole. Assumes nothing.
use mathlib.Core.Path.{◌≡◌, ap, ◌∙◌}
use mathlib.Core.List.{List}
use Prim.Native.Nat.{ℕ, ◌+◌, ◌-◌, ◌≤◌}
use native.Mathlib.Omega.{arith}
use lib.ListN.{length, take, drop}
use Rattle.description.specs.declared.Kind.{Kind}
use Rattle.description.specs.Kinds.{end_bytes, range_bytes}
use Rattle.description.proofs.Sides.{two_ends}
use Rattle.ranges.specs.Ranges.{Ends, ends_at}
use Rattle.ranges.proofs.Reading.{four_bytes-kinds, eight_bytes-kinds, part-ends}
use Rattle.writer.proofs.ends_at.Goals as goal

-- an end has m bytes
module _ (k : Kind) (s : List ℕ) (at m : ℕ) (size : end_bytes k ≡ m) (there : at + range_bytes k ≤ length s) where
  fits : at + (m + m) ≤ length s
  fits = omega (arith, size, two_ends k)

  same : (w : ℕ) → w ≡ m + m → ends_at k (take w (drop at s)) 0 ≡ ends_at k s at
  same w e = part-ends k s at w (omega (arith, size, two_ends k)) (omega (arith, fits))

pub returns-in-Int32 : goal.returns-in-Int32
returns-in-Int32 c =
    let e = same c.args.kind c.args.bytes.now c.args.at 4 (four_bytes-kinds c.args.kind c.in-Int32.is) c.requires (c.args.at + 8 - c.args.at) (omega arith) in
    record { low_value = c.patterns_at.ensures.low_value ∙ ap (λ (x : Ends). x.low) e; high_value = c.patterns_at.ensures.high_value ∙ ap (λ (x : Ends). x.high) e }

pub returns-in-Int64 : goal.returns-in-Int64
returns-in-Int64 c =
    let e = same c.args.kind c.args.bytes.now c.args.at 8 (eight_bytes-kinds c.args.kind c.in-Int64.is) c.requires (c.args.at + 16 - c.args.at) (omega arith) in
    record { low_value = c.patterns_at-in-Int64.ensures.low_value ∙ ap (λ (x : Ends). x.low) e; high_value = c.patterns_at-in-Int64.ensures.high_value ∙ ap (λ (x : Ends). x.high) e }
