-- Which rules can't be told apart? Two that say the same of a description, and of which n is outside both limits or
-- neither, agree (`Agree`); what a reader refuses and answers by them is then the same, by a law in each crate that has a
-- reader. Without a float32 dimension nothing is said of the description but 1 (`Unretired`): so the rules of this library
-- agree with those just before float32 was retired (`unretired`), and for at most 65,536 tiles with the earlier ones
-- (`few`).
-- Assumes nothing.
use mathlib.Core.Path.{◌≡◌, refl}
use Prim.Native.Nat.{ℕ, ◌≤◌}
use native.Mathlib.Omega.{arith}
use Rattle.description.specs.declared.Description.{Description}
use Rattle.description.specs.Limits.{least_tiles, outside}
use Rattle.answers.specs.Refusals.{none}
use Rattle.description.specs.Description.{retired_refusal}
use Rattle.description.specs.Rules.{Rules, current, before, earlier, rules_by}
use borrow.Author.Tests.{le-ltb}

-- a number of tiles that is outside the limits of both, or of neither
pub record AgreeOn (a b : Rules) (n : ℕ) : Type 0 where
  pub tiles : outside least_tiles a.tiles n ≡ outside least_tiles b.tiles n

pub record Agree (a b : Rules) (d : Description) (n : ℕ) : Type 0 where
  pub further : a.further d ≡ b.further d
  pub number : AgreeOn a b n

-- n within both limits
pub few-tiles : (n : ℕ) → n ≤ earlier.tiles → AgreeOn current earlier n
few-tiles n h = record { tiles = rw (le-ltb current.tiles n (omega arith), le-ltb earlier.tiles n h) }

-- a description without a float32 dimension: 28 is not said of it
pub record Unretired (d : Description) : Type 0 where
  pub silent : retired_refusal d ≡ none

pub unretired : (d : Description) (n : ℕ) → Unretired d → Agree current before d n
unretired d n u = record { further = u.silent; number = record { tiles = refl } }

pub few : (d : Description) (n : ℕ) → Unretired d → n ≤ earlier.tiles → Agree current earlier d n
few d n u h = record { further = u.silent; number = few-tiles n h }

-- with 28 handed in the rules are this library's
pub retired-agrees : (d : Description) (n : ℕ) → Agree (rules_by (retired_refusal d)) current d n
retired-agrees d n = record { further = refl; number = record { tiles = refl } }
