-- What is handed on until the text is written. Nothing here is promised to a caller.
-- Assumes nothing.
use Rattle.std.specs.Prelude.{ℕ, ◌+◌, ◌≤◌, ◌≡◌, Result, Ok, Err, IfOk, List, ◌++◌, length}
use Rattle.text.specs.Code.Places.{Wrote}
use Rattle.report_text.specs.declared.Writer.{Writer}
use Rattle.report_text.specs.declared.Listing.{Listing}
use Rattle.report_text.specs.declared.Unlisted.{Unlisted}
use Rattle.report_text.specs.declared.Unlisted.TheVariants.{TooLong, Refused}
use Rattle.report_text.specs.Text.{too_long_text, refused_text, header_text, tiles_text}

-- no place of the text is further
abbrev pub most_written : ℕ
most_written = 1_000_000

-- a text of at most so many bytes was written
pub record Puts (t : List ℕ) (most : ℕ) (before after : Writer) : Type 0 where
  pub from : after.from ≡ before.from
  pub wrote : Wrote before.from before.out.now before.at t after.out.now after.at
  pub bound : after.at ≤ before.at + most

-- no more tiles are found, in a tree of at most 65,536 bytes
abbrev pub most_found : ℕ
most_found = 8_192

-- the header and the first m lines
abbrev pub listed : Listing → List ℕ → List ℕ → ℕ → List ℕ
listed r offsets tiles m =
    header_text r.tiles r.found r.looked
    ++ tiles_text r.tiles r.last_cells r.capacity r.data_size offsets tiles m

-- a listing's tiles are there
pub record Holds (tiles : List ℕ) (r : Listing) : Type 0 where
  pub few : r.found ≤ most_found
  pub there : r.found ≤ length tiles

unfoldable pub unlisted_text : Unlisted → List ℕ
unlisted_text TooLong = too_long_text
unlisted_text (Refused r) = refused_text r.number r.place

unfoldable pub outcome_text : Result Listing Unlisted → List ℕ → List ℕ → List ℕ
outcome_text (Ok r) offsets tiles = listed r offsets tiles r.found
outcome_text (Err e) offsets tiles = unlisted_text e

-- the outcome's text, with its tiles, which are there, is that text
pub record Renders (text offsets tiles : List ℕ) (r : Result Listing Unlisted) : Type 0 where
  pub there : IfOk r (Holds tiles)
  pub same : outcome_text r offsets tiles ≡ text
