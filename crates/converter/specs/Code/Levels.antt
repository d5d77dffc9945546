-- A run of boxes as it stands in the old body, and what is written for it. Nothing here is promised to a caller.
-- Assumes nothing.
use Rattle.std.specs.Prelude.{ℕ, ◌+◌, ◌*◌, ◌≤◌, ◌≡◌, List, length, take, drop}
use Rattle.answers.specs.Runs.{join}
use Rattle.description.specs.declared.Description.{Description}
use Rattle.description.specs.Description.{sides_of, bytes_of_box}
use Rattle.description.specs.Rules.{before}
use Rattle.tree.specs.Shape.{body_bytes}
use Rattle.footer.specs.Fields.{start}
use Rattle.footer.specs.Checks.{footer_refusal_by}
use Rattle.rtree.specs.Body.{fanout_of, shape_refusal}
use Rattle.rtree.proofs.Passed.{Passed}
use Rattle.widened.specs.Widened.{widened_description, widened_box}
use Rattle.widened.specs.Footers.{widened_footer}

module _ (d : Description) (body : List ℕ) (from : ℕ) where
  -- box k of those from a place on, widened
  abbrev pub box_from : ℕ → List ℕ
  box_from k = widened_box d.kinds (sides_of d.dimensions) (take (bytes_of_box d) (drop (from + k * bytes_of_box d) body))

  -- so many of them
  abbrev pub boxes_from : ℕ → List ℕ
  boxes_from count = join box_from 0 count

-- the run is there, and there is room for it
pub record Run (d : Description) (old wide : ℕ) (body : List ℕ) (from : ℕ) (out : List ℕ) (at count : ℕ) : Type 0 where
  pub own : old ≡ bytes_of_box d
  pub new : wide ≡ bytes_of_box (widened_description d)
  pub there : from + count * old ≤ length body
  pub room : at + count * wide ≤ length out

-- what is filled: everything has been checked, and there is room
pub record Filling (d : Description) (n old wide : ℕ) (body out : List ℕ) : Type 0 where
  pub own : old ≡ bytes_of_box d
  pub new : wide ≡ bytes_of_box (widened_description d)
  pub passed : Passed n (bytes_of_box d) body
  pub shaped : (shape_refusal n (bytes_of_box d) body).number ≡ 0
  pub room : body_bytes (fanout_of body) n wide ≤ length out

-- a footer that has been checked, and room for the widened one
pub record FooterFilling (d : Description) (domain old wide : ℕ) (footer out : List ℕ) : Type 0 where
  pub own : old ≡ bytes_of_box d
  pub new : wide ≡ bytes_of_box (widened_description d)
  pub starts : domain ≡ start d footer "domain"
  pub file : ℕ
  pub checked : (footer_refusal_by before d file footer).number ≡ 0
  pub room : length (widened_footer d footer) ≤ length out
