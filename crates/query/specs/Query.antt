-- The window query on plain bytes.
-- Assumes nothing.
use Rattle.std.specs.Prelude.{ℕ, ◌+◌, ◌-◌, ◌*◌, ◌≤◌, ◌≡◌, Bool, cond, List, [], ◌∷◌, eqb, length}
use Rattle.answers.specs.Refusals as refusals
use Rattle.answers.specs.Checks.{check, otherwise, first}
use Rattle.answers.specs.Laid.{laid}
use Rattle.answers.specs.declared.Refusal.{Refusal}
use Rattle.description.specs.declared.Description.{Description}
use Rattle.boxes.specs.declared.Window.{Window}
use Rattle.description.specs.Limits.{least_tiles, outside}
use Rattle.description.specs.Description.{sides_of, bytes_of_box}
use Rattle.description.specs.Rules.{Rules, current, described_by}
use Rattle.boxes.specs.Boxes.{box_meets}
use Rattle.boxes.specs.Windows.{window_refusal}
use Rattle.tree.specs.Walk as walk
use Rattle.tree.specs.Flat as flat
use Rattle.query.specs.declared.Answer.{Answer}
use Rattle.rtree.specs.Body.{fanout_of, levels_of, box_at, shape_refusal}
use Rattle.rtree.specs.Opening.{Accepted}

-- 1, and what the rules say after it; 10; the query
unfoldable pub asked_refusal_by : Rules → Description → ℕ → Window → Refusal
asked_refusal_by rules d n w = first (
    described_by rules d
    ∷ check (outside least_tiles rules.tiles n) refusals.tiles 0
    ∷ window_refusal d w
    ∷ []
    )

abbrev pub asked_refusal : Description → ℕ → Window → Refusal
asked_refusal = asked_refusal_by current

abbrev pub refused_answer : Refusal → Answer
refused_answer r = record { number = r.number; place = r.place; found = 0; looked = 0 }

module _ (d : Description) (n : ℕ) (body : List ℕ) (w : Window) where
  -- box k of the level at distance j meets the query
  unfoldable pub meeting : ℕ → ℕ → Bool
  meeting j k = box_meets d.kinds (sides_of d.dimensions) (box_at n (bytes_of_box d) body j k) w.sides

  -- the looked-at number and the tiles found, as the walk says
  abbrev pub looked_at : ℕ
  looked_at = walk.looked_number (fanout_of body) n meeting

  abbrev pub found_at : List ℕ
  found_at = walk.found_tiles (fanout_of body) n meeting

  -- the flat listing and the flat count
  abbrev pub flat_listing_of : List ℕ
  flat_listing_of = flat.flat_listing n meeting

  abbrev pub flat_count_of : ℕ
  flat_count_of = flat.flat_count (fanout_of body) n meeting

module _ (rules : Rules) (d : Description) (n : ℕ) (body : List ℕ) (w : Window) where
  -- then the shape
  unfoldable pub query_refusal_by : Refusal
  query_refusal_by = otherwise (asked_refusal_by rules d n w) (shape_refusal n (bytes_of_box d) body)

  -- Answer: number found, number looked at. A refusal has 0 in every other number.
  unfoldable pub query_answer_by : Answer
  query_answer_by =
      cond (eqb query_refusal_by.number 0)
      (record { number = 0; place = 0; found = length (found_at d n body w); looked = looked_at d n body w })
      (refused_answer query_refusal_by)

  -- the first found tiles, as many as fit, and the rest untouched; all of it where the query is refused
  unfoldable pub query_buffer_by : List ℕ → List ℕ
  query_buffer_by out = cond (eqb query_refusal_by.number 0) (laid (found_at d n body w) out) out

-- by the rules of this library
module _ (d : Description) (n : ℕ) (body : List ℕ) (w : Window) where
  abbrev pub query_refusal : Refusal
  query_refusal = query_refusal_by current d n body w

  abbrev pub query_answer : Answer
  query_answer = query_answer_by current d n body w

  abbrev pub query_buffer : List ℕ → List ℕ
  query_buffer = query_buffer_by current d n body w

-- Demand 2: over an accepted tree, a query that isn't refused lists exactly the tiles whose box meets the window.
pub record Lists (d : Description) (n : ℕ) (body : List ℕ) (w : Window) (r : Answer) (before after : List ℕ) : Type 0 where
  pub found : r.found ≡ length (flat_listing_of d n body w)
  pub buffer : after ≡ laid (flat_listing_of d n body w) before

-- Demand 3: over every accepted tree the looked-at number is the flat count; for every query that isn't refused it is
-- bounded, with f and L the body's own fields.
abbrev pub Bounded : ℕ → List ℕ → Answer → Type 0
Bounded n body r =
    r.looked * (fanout_of body - 1) ≤ levels_of body * (fanout_of body - 1) + (n - 1) * fanout_of body

-- All that is promised of a query's answer and of its buffer before and after it.
pub record Promises (d : Description) (n : ℕ) (body : List ℕ) (w : Window) (r : Answer) (before after : List ℕ) : Type 0 where
  pub answer : r ≡ query_answer d n body w
  pub buffer : after ≡ query_buffer d n body w before
  pub listing : Accepted d n body → r.number ≡ 0 → Lists d n body w r before after
  pub count : Accepted d n body → r.number ≡ 0 → r.looked ≡ flat_count_of d n body w
  pub bound : r.number ≡ 0 → Bounded n body r
