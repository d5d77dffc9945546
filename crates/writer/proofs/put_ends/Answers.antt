-- `writer::put_ends` meets its contract: the part that is written is as long as both ends. Assumes nothing.
use Prim.Native.Nat.{ℕ, ◌+◌, ◌-◌, ◌%◌, ◌^◌, ◌≤◌}
use mathlib.Core.Path.{◌≡◌, ap, sym, ◌∙◌}
use mathlib.Core.List.{List, ◌++◌}
use native.Mathlib.Omega.{arith}
use lib.ListN.{length, take, drop, length-append, length-take, length-drop}
use lib.Seq.{sets}
use Rattle.order.specs.Little.{bytes_of}
use Rattle.order.proofs.Bytes.{bytes-length}
use Rattle.description.specs.declared.Kind.{Kind}
use Rattle.description.specs.Kinds.{end_bytes, range_bytes}
use Rattle.description.proofs.Sides.{two_ends}
use Rattle.ranges.proofs.Reading.{four_bytes-kinds, eight_bytes-kinds, fitted-same}
use Rattle.order.proofs.Stores.{part-stored, pair-stored}
use Rattle.writer.proofs.put_ends.Goals as goal

abbrev part : List ℕ → ℕ → ℕ → List ℕ
part out at k = take k (drop at out)

-- an end has m bytes
module _ (kind : Kind) (out : List ℕ) (at m : ℕ) (size : end_bytes kind ≡ m) (there : at + range_bytes kind ≤ length out) where
  fits : at + (m + m) ≤ length out
  fits = omega (arith, size, two_ends kind)

  part-long : (k : ℕ) → k ≡ m + m → length (part out at k) ≡ m + m
  part-long k e = simp (length-take, length-drop) (omega (arith, e, fits))

  whole : (k x y : ℕ) (part : List ℕ) → k ≡ m + m → part ≡ bytes_of m x ++ bytes_of m y
      → take at out ++ (part ++ drop k (drop at out)) ≡ sets out at (bytes_of (end_bytes kind) x ++ bytes_of (end_bytes kind) y)
  whole k x y part e p =
      rw (size, p)
      (part-stored out at k (bytes_of m x ++ bytes_of m y) (simp length-append (omega (arith, bytes-length m x, bytes-length m y))) (omega (arith, fits)))

pub returns-in-Int32 : goal.returns-in-Int32
returns-in-Int32 c =
    let x = c.args in
    let size = four_bytes-kinds x.kind c.in-Int32.is in
    let low = c.low_four.ensures ∙ ap (λ (c : ℕ). x.ends.low % 256 ^ c) (sym size) ∙ fitted-same x.kind x.ends.low c.requires.low_bound.0 in
    let high = c.low_four-in-Int32.ensures ∙ ap (λ (c : ℕ). x.ends.high % 256 ^ c) (sym size) ∙ fitted-same x.kind x.ends.high c.requires.low_bound.1 in
    whole x.kind x.out.now x.at 4 size c.requires.kind_in_bounds (x.at + 8 - x.at) x.ends.low x.ends.high _ (omega arith)
    (pair-stored (part x.out.now x.at (x.at + 8 - x.at)) _ _ 4 _ _ (part-long x.kind x.out.now x.at 4 size c.requires.kind_in_bounds _ (omega arith)) c.put_u32.ensures c.put_u32-in-Int32.ensures ∙ rw (low, high))

pub returns-in-Int64 : goal.returns-in-Int64
returns-in-Int64 c =
    let x = c.args in
    whole x.kind x.out.now x.at 8 (eight_bytes-kinds x.kind c.in-Int64.is) c.requires.kind_in_bounds (x.at + 16 - x.at) x.ends.low x.ends.high _ (omega arith)
    (pair-stored (part x.out.now x.at (x.at + 16 - x.at)) _ _ 8 _ _ (part-long x.kind x.out.now x.at 8 (eight_bytes-kinds x.kind c.in-Int64.is) c.requires.kind_in_bounds _ (omega arith)) c.put_u64.ensures c.put_u64-in-Int64.ensures)
