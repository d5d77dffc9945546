-- One side of a row's boxes as it stands in a level: the boxes that are chosen are of the row (`lowest-in`, `highest-in`), so
-- their ends are there, and the bytes of both ends, one after the other, are the side (`side-bytes`).
-- Assumes nothing.
use mathlib.Core.Path.{◌≡◌}
use mathlib.Core.List.{List, ◌++◌}
use Prim.Native.Nat.{ℕ, suc, ◌+◌, ◌*◌, ◌≤◌, ◌<◌}
use native.Mathlib.Nat.{mul-le-mul_left, mul-le-mul_right}
use native.Mathlib.Omega.{arith}
use lib.ListN.{length, get_or, take, drop}
use borrow.Author.Tests.{le-leb}
use Rattle.order.specs.Little.{first_of_two, second_of_two, bytes_of}
use Rattle.description.specs.declared.Kind.{Kind}
use Rattle.description.specs.Kinds.{end_bytes, range_bytes}
use Rattle.description.proofs.Sides.{two_ends, range-bytes-most}
use Rattle.ranges.specs.Ranges.{ends_at}
use Rattle.boxes.proofs.Least.{best-in}
use Rattle.writer.specs.Code.Rows.{lowest_of, highest_of, side_of, SideRow}
use Rattle.order.proofs.Stores.{bytes-there}

module _ (kind : Kind) (rest : List ℕ) (b side k more : ℕ) where
  pub lowest-in : (k ≤ lowest_of kind rest b side k more) × (lowest_of kind rest b side k more < k + suc more)
  unfolding lowest_of
  lowest-in = best-in _ k more

  pub highest-in : (k ≤ highest_of kind rest b side k more) × (highest_of kind rest b side k more < k + suc more)
  unfolding highest_of
  highest-in = best-in _ k more

-- box c of a row ends before the row does
pub box-before : (b first count c : ℕ) → c < first + count → c * b + b ≤ (first + count) * b
box-before b first count c h = omega (arith, mul-le-mul_right b h)

-- a side of a row is there
module _ {kind : Kind} {level : List ℕ} {b side first count : ℕ} (row : SideRow kind level b side first count) where
  pub box-there : (c : ℕ) → c < first + count → c * b + side + range_bytes kind ≤ length level
  box-there c h = omega (arith, row.inside, row.there, box-before b first count c h)

  pub first-there : first * b + side + range_bytes kind ≤ length level
  first-there = box-there first (omega (arith, row.some))

  pub row_fits : first + count ≤ length level
  row_fits =
      let least : 1 ≤ b = omega (arith, row.inside, range-bytes-most kind) in
      omega (arith, row.there, mul-le-mul_left (first + count) least)

-- both ends that are chosen, as bytes
module _ (kind : Kind) (rest : List ℕ) (byte : (i : ℕ) → get_or rest i 0 < 256) (b side first more : ℕ)
    (inside : side + range_bytes kind ≤ b) (there : (first + suc more) * b ≤ length rest) where
  abbrev w : ℕ
  w = end_bytes kind

  abbrev low : ℕ
  low = lowest_of kind rest b side first more * b + side

  abbrev high : ℕ
  high = highest_of kind rest b side first more * b + side

  low-there : low + (w + w) ≤ length rest
  low-there = omega (arith, two_ends kind, box-before b first (suc more) (lowest_of kind rest b side first more) (lowest-in kind rest b side first more).1)

  high-there : high + (w + w) ≤ length rest
  high-there = omega (arith, two_ends kind, box-before b first (suc more) (highest_of kind rest b side first more) (highest-in kind rest b side first more).1)

  low-bytes : bytes_of w (ends_at kind rest low).low ≡ take w (drop low rest)
  unfolding ends_at first_of_two
  low-bytes = rw (le-leb (low + (w + w)) (length rest) low-there) (bytes-there rest byte low w (omega (arith, low-there)))

  high-bytes : bytes_of w (ends_at kind rest high).high ≡ take w (drop (high + w) rest)
  unfolding ends_at second_of_two
  high-bytes = rw (le-leb (high + (w + w)) (length rest) high-there) (bytes-there rest byte (high + w) w (omega (arith, high-there)))

  pub side-bytes : bytes_of w (ends_at kind rest low).low ++ bytes_of w (ends_at kind rest high).high ≡ side_of kind rest b side first more
  unfolding side_of
  side-bytes = rw (low-bytes, high-bytes)
