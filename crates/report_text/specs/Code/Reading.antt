-- The description file as it is read, line after line. Nothing here is promised to a caller.
-- Assumes nothing.
use Rattle.std.specs.Prelude.{ℕ, ◌+◌, ◌≡◌, true, false, List, Option, MatchOption, is_some, option_map}
use Rattle.answers.specs.Runs.{filled}
use Rattle.description.specs.declared.Kind.{Kind}
use Rattle.description.specs.declared.Dimension.{Dimension}
use Rattle.boxes.specs.declared.Side.{Side}
use Rattle.boxes.specs.Boxes.{all, no_side}
use Rattle.ranges.specs.declared.Range.{Range}
use Rattle.text.specs.Text.{line_at}
use Rattle.text.specs.Code.Places.{AtLine}
use Rattle.range_text.specs.Ranges.{read_range}
use Rattle.report_text.specs.declared.Lines.{Lines}
use Rattle.report_text.specs.Asked.{is_width, dimension_of, bits_at, window_line, window_read, window_side}

module _ (t : List ℕ) where
  -- line k is the next
  pub record Next (k : ℕ) (r : Lines) : Type 0 where
    pub same : r.text.now ≡ t
    pub here : AtLine t k r.at

  -- what the two lines of a side say
  abbrev pub side_read : ℕ → Kind → Option Side
  side_read k kind = option_map (λ (r : Range). record { range = r }) (read_range kind (line_at k t) (line_at (k + 1) t))

  -- the lines of m kinds say this, and then line 1 + m is the next
  pub record Kinds (m : ℕ) (kinds : List Dimension) (r : Lines) : Type 0 where
    pub good : all (λ i. is_width (bits_at t i)) 0 m ≡ true
    pub filled_kinds : kinds ≡ filled (λ i. dimension_of (bits_at t i)) (dimension_of 64) m 4
    pub next : Next (1 + m) r

  abbrev pub KindsRead : ℕ → Option (List Dimension) → Lines → Type 0
  KindsRead D o r = MatchOption o (all (λ i. is_width (bits_at t i)) 0 D ≡ false) (λ kinds. Kinds D kinds r)

  -- with D dimensions, those of m sides of the window
  pub record Sides (D m : ℕ) (sides : List Side) (r : Lines) : Type 0 where
    pub good : all (λ i. is_some (window_read t D i)) 0 m ≡ true
    pub filled_sides : sides ≡ filled (window_side t D) no_side m 4
    pub next : Next (window_line t D m) r

  abbrev pub SidesRead : ℕ → Option (List Side) → Lines → Type 0
  SidesRead D o r = MatchOption o (all (λ i. is_some (window_read t D i)) 0 D ≡ false) (λ sides. Sides D D sides r)
