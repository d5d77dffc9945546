-- `report_text::Writer::listing` meets its contract. The invariant: the header and the lines of the first tiles are written. Assumes nothing.
use mathlib.Core.Path.{◌≡◌, refl, ◌∙◌}
use native.Mathlib.Omega.{arith}
use lib.ListN.{get_or}
use Rattle.std.proofs.lemmas.List.{length-take-le, get_or-take}
use Rattle.report_text.proofs.Writing.{tiles-none, tiles_more, puts-nothing, puts-append, puts-within}
use Rattle.report_text.proofs.Writer.listing.Goals as goal

pub loop-tile-init : goal.loop-tile-init
loop-tile-init c =
    let x = c.args in
    let t = x.listing in record {
      puts = rw (tiles-none t.tiles t.last_cells t.capacity t.data_size x.offsets.now x.tiles.now) (puts-nothing c.header.new.self);
      same = refl;
    }

pub loop-tile-preserved : goal.loop-tile-preserved
loop-tile-preserved c =
    let x = c.args in
    let t = x.listing in
    let i = c.loop-tile.tile-index in
    let e : c.from.result ≡ get_or x.tiles.now i 0 =
    c.from.ensures ∙ get_or-take t.found x.tiles.now i 0 (omega (arith, length-take-le t.found x.tiles.now c.requires.1.there)) in record {
      puts = rw (tiles_more t.tiles t.last_cells t.capacity t.data_size x.offsets.now x.tiles.now i)
          (puts-within (omega arith) (puts-append c.loop-tile.invariant.puts (rw e at c.tile.ensures.puts)));
      same = c.tile.ensures.same ∙ c.loop-tile.invariant.same;
    }

pub returns-clause-puts : goal.returns-clause-puts
returns-clause-puts c =
    let e : c.loop-tile.tile-index ≡ c.args.listing.found =
    omega (arith, length-take-le c.args.listing.found c.args.tiles.now c.requires.1.there) in
    puts-within (omega arith) (puts-append c.header.ensures.puts (rw e at c.loop-tile.invariant.puts))
