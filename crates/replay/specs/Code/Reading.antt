-- A log and a line as they are read by a cursor. Nothing here is promised to a caller.
-- Assumes nothing.
use Rattle.std.specs.Prelude.{ℕ, ◌+◌, ◌*◌, ◌≤◌, ◌≡◌, cond, true, false, List, [], ◌∷◌, eqb, Option, Some, None, MatchOption, unwrap_or}
use Rattle.answers.specs.Runs.{filled}
use Rattle.description.specs.declared.Dimension.{Dimension}
use Rattle.description.specs.declared.Description.{Description}
use Rattle.boxes.specs.declared.Side.{Side}
use Rattle.boxes.specs.Boxes.{all, no_side}
use Rattle.text.specs.Text.{Bytes, tab, newline}
use Rattle.text.specs.Code.Places.{AtPart}
use Rattle.replay.specs.declared.Sides.{Sides}
use Rattle.replay.specs.declared.Logged.{Logged}
use Rattle.replay.specs.Records.{dimension_read, dimension_side, numbers_read, logged_window, logged_found, logged_looked}

-- how many newlines a text has
abbrev pub ends_line : ℕ → ℕ
ends_line b = cond (eqb b newline) 1 0

unfoldable pub newlines : Bytes → ℕ
newlines [] = 0
newlines (b ∷ t) = ends_line b + newlines t

-- the ends of the first m dimensions, and where the next part starts
pub record Read (kinds : List Dimension) (line : Bytes) (m : ℕ) (found : List Side) (next : ℕ) : Type 0 where
  pub good : all (dimension_read kinds line) 0 m ≡ true
  pub sides : found ≡ filled (dimension_side kinds line) no_side m 4
  pub place : AtPart tab line (2 * m) next
  pub near : next ≤ 512 * m

abbrev pub SidesRead : List Dimension → Bytes → ℕ → Option Sides → Type 0
SidesRead kinds line m o =
    MatchOption o (all (dimension_read kinds line) 0 m ≡ false) (λ r. Read kinds line m r.sides r.next)

-- a line of at most 255 bytes
abbrev pub logged_of : Description → Bytes → Option Logged
logged_of d line = cond (numbers_read d line) (Some (record {
  window = logged_window d line;
  logged = record { found = unwrap_or (logged_found d line) 0; looked = unwrap_or (logged_looked d line) 0 };
})) None
