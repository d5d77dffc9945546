-- `report_text::Writer::listing` meets its contract. The invariant: the header and the lines of the first tiles are written. Assumes nothing.
use mathlib.Core.Path.{◌≡◌}
use Prim.Native.Nat.{◌*◌}
use Rattle.report_text.specs.Text.{tiles_text}
use Rattle.report_text.specs.Code.Writing.{Puts}
use Rattle.report_text.proofs.Writer.listing.Given as goal

abbrev pub invariant-loop-tile : goal.invariant-loop-tile
invariant-loop-tile l = record {
  puts : Puts (tiles_text l.listing.tiles l.listing.last_cells l.listing.capacity l.listing.data_size l.offsets l.tiles l.tile-index) (84 * l.tile-index) l.initial.self l.self;
  same : l.self.out.ghost_name ≡ l.initial.self.out.ghost_name;
}
