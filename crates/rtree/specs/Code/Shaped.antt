-- What the check of a body's shape tells the code of opening and of the query. Nothing here is promised to a caller.
-- Assumes nothing.
use Rattle.std.specs.Prelude.{ℕ, ◌-◌, not, ◌≡◌, List, eqb}
use Rattle.answers.specs.Refusals as refusals
use Rattle.answers.specs.Checks.{check, otherwise, each}
use Rattle.answers.specs.declared.Refusal.{Refusal}
use Rattle.order.specs.Little.{little}
use Rattle.description.specs.declared.Description.{Description}
use Rattle.description.specs.Description.{bytes_of_box}
use Rattle.description.specs.Limits.{least_tiles, most_tiles, outside}
use Rattle.tree.specs.Shape.{shape_of, place_in, count_in}
use Rattle.rtree.specs.declared.Shaped.{Shaped}
use Rattle.rtree.specs.Body.{fanout_of, shape_refusal}

-- 10 for an n that the caller gives
abbrev pub tiles_refusal : ℕ → Refusal
tiles_refusal n = check (outside least_tiles most_tiles n) refusals.tiles 0

-- and then the shape
abbrev pub shaped_refusal : Description → ℕ → List ℕ → Refusal
shaped_refusal d n body = otherwise (tiles_refusal n) (shape_refusal n (bytes_of_box d) body)

-- one level's count, at distance j, as a table of places and counts says it
abbrev pub table_count_refusal : List ℕ → List ℕ → ℕ → Refusal
table_count_refusal body table j =
    let place = place_in table j - 8 in
    check (not (eqb (little body place 8) (count_in table j))) refusals.levels place

-- each level's count in order, from the root's: l levels
unfoldable pub table_refusal : List ℕ → List ℕ → ℕ → Refusal
table_refusal body table l = each (λ i. table_count_refusal body table (l - 1 - i)) 0 l

pub record IsShaped (d : Description) (n : ℕ) (body : List ℕ) (r : Shaped) : Type 0 where
  pub number : r.number ≡ (shaped_refusal d n body).number
  pub place : r.place ≡ (shaped_refusal d n body).place
  pub fanout : r.fanout ≡ fanout_of body
  pub shape : r.shape ≡ shape_of (fanout_of body) n (bytes_of_box d)
