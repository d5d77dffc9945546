-- What a check in code tells: the number of a reason, and the refusal that an error stands for.
-- Assumes nothing.
use Rattle.std.specs.Prelude.{ℕ, Result, Ok, Err}
use Rattle.answers.specs.declared.Refusal.{Refusal}
use Rattle.answers.specs.declared.Reason.{Reason}
use Rattle.answers.specs.declared.Refused.{Refused}
use Rattle.answers.specs.Refusals.{refusal, none, description, bytes, version, the_name_size, flag, dense, the_null_domain, not_a_number, reversed, tiles, the_last_cells, offset, fanout, levels, outside_parent, outside_domain, count, the_tile_offsets, window, sizes_sum, work, runs, infinite, bad_line, repeated, room, null_count, retired, grid}

-- the number of each reason
unfoldable pub number_of : Reason → ℕ
number_of Reason.Description = description
number_of Reason.Bytes = bytes
number_of Reason.Version = version
number_of Reason.NameSize = the_name_size
number_of Reason.Flag = flag
number_of Reason.Dense = dense
number_of Reason.NullDomain = the_null_domain
number_of Reason.NotANumber = not_a_number
number_of Reason.Reversed = reversed
number_of Reason.Tiles = tiles
number_of Reason.LastCells = the_last_cells
number_of Reason.Offset = offset
number_of Reason.Fanout = fanout
number_of Reason.Levels = levels
number_of Reason.OutsideParent = outside_parent
number_of Reason.OutsideDomain = outside_domain
number_of Reason.Count = count
number_of Reason.TileOffsets = the_tile_offsets
number_of Reason.Window = window
number_of Reason.SizesSum = sizes_sum
number_of Reason.Work = work
number_of Reason.Runs = runs
number_of Reason.Infinite = infinite
number_of Reason.BadLine = bad_line
number_of Reason.Repeated = repeated
number_of Reason.Room = room
number_of Reason.NullCount = null_count
number_of Reason.Retired = retired
number_of Reason.Grid = grid

-- refused for a reason at a place
abbrev pub refused : Reason → ℕ → Refused
refused reason place = record { reason = reason; place = place }

-- what an error says
abbrev pub said : Refused → Refusal
said e = refusal (number_of e.reason) e.place

-- nothing is refused, or what the error says
unfoldable pub told : Result Unit Refused → Refusal
told (Ok _) = none
told (Err e) = said e
