-- Where a cursor stands in a text that is read, and in one that is written. Nothing here is promised to a caller.
-- Assumes nothing.
use Rattle.std.specs.Prelude.{ℕ, ◌+◌, ◌≡◌, cond, List, [], leb, length, drop}
use Rattle.text.specs.Text.{Bytes, lines, parts}
use Rattle.text.specs.Write.{seen}

-- line i starts there, or all lines are past
pub record AtLine (t : Bytes) (i at : ℕ) : Type 0 where
  pub rest : lines (drop at t) ≡ drop i (lines t)

-- the parts from a place on; past the end there are none
abbrev pub parts_from : ℕ → Bytes → ℕ → List Bytes
parts_from sep t at = cond (leb at (length t)) (parts sep (drop at t)) []

-- part k starts there, or all parts are past
pub record AtPart (sep : ℕ) (t : Bytes) (k at : ℕ) : Type 0 where
  pub rest : parts_from sep t at ≡ drop k (parts sep t)

-- a text was written at a place, and where the next one goes
pub record Wrote (from : ℕ) (before : Bytes) (at : ℕ) (t after : Bytes) (next : ℕ) : Type 0 where
  pub place : next ≡ at + length t
  pub there : after ≡ seen from before at t
