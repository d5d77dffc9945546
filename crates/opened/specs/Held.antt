-- An opened tree keeps hold of the lent body. A refused one holds an empty body and n 0; it keeps the description that
-- was given. Assumes nothing.
use Rattle.std.specs.Prelude.{cond, ℕ, ◌≡◌, List, [], eqb}
use Rattle.description.specs.declared.Description.{Description}
use Rattle.description.specs.Rules.{Rules, current}
use Rattle.boxes.specs.declared.Window.{Window}
use Rattle.query.specs.declared.Answer.{Answer}
use Rattle.query.specs.Query.{query_answer, query_buffer, flat_count_of, Lists, Bounded}
use Rattle.opened.specs.declared.OpenTree.{OpenTree}
use Rattle.rtree.specs.Opening.{open_answer_by}

module _ (rules : Rules) (d : Description) (F : ℕ) (footer body : List ℕ) where
  -- n, which is 0 where opening is refused
  abbrev pub held_tiles_by : ℕ
  held_tiles_by = (open_answer_by rules d F footer body).tiles

  abbrev pub held_body_by : List ℕ
  held_body_by = cond (eqb (open_answer_by rules d F footer body).number 0) body []

-- by the rules of this library
module _ (d : Description) (F : ℕ) (footer body : List ℕ) where
  abbrev pub held_tiles : ℕ
  held_tiles = held_tiles_by current d F footer body

  abbrev pub held_body : List ℕ
  held_body = held_body_by current d F footer body

  abbrev pub Holds : OpenTree → Type 0
  Holds t = (t.body.now ≡ held_body) × ((t.tiles ≡ held_tiles) × (t.description ≡ d))

-- all of a body, or nothing of it where n is 0
abbrev pub kept_part : List ℕ → ℕ → List ℕ
kept_part body n = cond (eqb n 0) [] body

-- All that is promised of opening and asking once. An answer that isn't a refusal is over an accepted tree, so listing
-- and count are promised with no premise.
pub record OpenedPromises (d : Description) (F : ℕ) (footer body : List ℕ) (w : Window) (r : Answer) (before after : List ℕ) : Type 0 where
  pub answer : r ≡ query_answer d (held_tiles d F footer body) (held_body d F footer body) w
  pub buffer : after ≡ query_buffer d (held_tiles d F footer body) (held_body d F footer body) w before
  pub listing : r.number ≡ 0 → Lists d (held_tiles d F footer body) (held_body d F footer body) w r before after
  pub count : r.number ≡ 0 → r.looked ≡ flat_count_of d (held_tiles d F footer body) (held_body d F footer body) w
  pub bound : r.number ≡ 0 → Bounded (held_tiles d F footer body) (held_body d F footer body) r
