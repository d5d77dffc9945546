-- Which range do two decimal numbers make, in the kind of a dimension?
-- Assumes nothing.
use Rattle.std.specs.Prelude.{ℕ, ◌-◌, ◌^◌, List, Option, Some, None}
use Rattle.description.specs.declared.Kind.{Kind}
use Rattle.description.specs.declared.Kind.TheVariants.{Int32, Int64, Float32, Float64, Uint64}
use Rattle.ranges.specs.declared.Range.{Range}
use Rattle.ranges.specs.declared.Range.TheVariants.{I32, I64, U64}
use Rattle.decimal.specs.Read.{read_number, signed32, signed64}

-- a number of 64 bits, with no minus
abbrev pub number64 : List ℕ → Option ℕ
number64 t = read_number (2 ^ 64 - 1) t

-- both are numbers, and the range from the one to the other
abbrev pub from_to : {N : Type 0} → (N → N → Range) → Option N → Option N → Option Range
from_to range None high = None
from_to range (Some low) None = None
from_to range (Some low) (Some high) = Some (range low high)

-- both are numbers of that kind; no float is read
unfoldable pub read_range : Kind → List ℕ → List ℕ → Option Range
read_range Int32 low high = from_to I32 (signed32 low) (signed32 high)
read_range Int64 low high = from_to I64 (signed64 low) (signed64 high)
read_range Float32 low high = None
read_range Float64 low high = None
read_range Uint64 low high = from_to U64 (number64 low) (number64 high)
