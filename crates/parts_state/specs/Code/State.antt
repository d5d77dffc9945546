-- What state and work buffer hold of a body, of which the first bytes have come. Nothing here is promised to a caller
-- but that `Took`, which is made of it, goes on from call to call.
-- Assumes nothing.
use Rattle.std.specs.Prelude.{ℕ, suc, ◌+◌, ◌*◌, ◌≤◌, ◌<◌, ◌≡◌, cond, List, eqb, length, take, drop, replicate}
use Rattle.answers.specs.Refusals as refusals
use Rattle.answers.specs.Checks.{otherwise}
use Rattle.description.specs.declared.Description.{Description}
use Rattle.description.specs.Description.{bytes_of_box}
use Rattle.description.specs.Limits.{Sizes}
use Rattle.tree.specs.Shape.{boxes, boxes_above, height, levels, level_start, body_bytes}
use Rattle.footer.specs.Fields.{tiles_of, domain_bytes}
use Rattle.footer.specs.Checks.{footer_refusal}
use Rattle.rtree.specs.Body.{fanout_of, levels_of, stored_count}
use Rattle.rtree.specs.Opening.{boxes_refusal, refused_in}
use Rattle.parts_state.specs.declared.Cursor.{Cursor}
use Rattle.parts_state.specs.declared.Parts.{Parts}
use Rattle.parts_state.specs.Parts.{inner_bytes, parts_answer}
use Rattle.parts_state.specs.Code.Rest.{boxes_from}

-- the bytes of what comes next
abbrev pub item_bytes : ℕ → ℕ → ℕ
item_bytes b counted = cond (eqb counted 0) 8 b

-- the state that a start makes
abbrev pub begun : Description → ℕ → ℕ → ℕ → ℕ → List ℕ → ℕ → Parts
begun d number place which tiles domain stated = record {
  description = d;
  tiles = tiles;
  domain = domain;
  stated = stated;
  cursor = record {
    number = number;
    place = place;
    which = which;
    fanout = 0;
    levels = 0;
    level = 0;
    counted = 0;
    count = 0;
    index = 0;
    own = 0;
    parents = 0;
    done = 0;
    kept = 0;
    box_number = 0;
    box_place = 0;
  };
  held = replicate 64 0;
}

-- A start, where nothing of the body has come.
pub record Blank (c : Cursor) : Type 0 where
  pub counted : c.counted ≡ 0
  pub done : c.done ≡ 0
  pub level : c.level ≡ 0
  pub index : c.index ≡ 0
  pub own : c.own ≡ 0
  pub parents : c.parents ≡ 0
  pub count : c.count ≡ 0

module _ (d : Description) (F : ℕ) (footer : List ℕ) (stated : ℕ) (body work : List ℕ) (s : Parts) where
  abbrev n : ℕ
  n = tiles_of d footer

  abbrev b : ℕ
  b = bytes_of_box d

  abbrev f : ℕ
  f = fanout_of body

  abbrev c : Cursor
  c = s.cursor

  abbrev j : ℕ
  j = c.level

  abbrev k : ℕ
  k = c.index

  -- Past the first eight bytes: what they show is right; the counts of the levels before what comes next are right, and
  -- that of its own level if it has come; the boxes of its level that have come, and those of the level above it, stand
  -- in the work buffer; and what all boxes come to is the first fault so far, and then what is left.
  pub record InTree : Type 0 where
    pub sized : Sizes n f
    pub fanout : c.fanout ≡ f
    pub level-number : c.levels ≡ levels_of body
    pub leveled : levels_of body ≡ levels f n
    pub whole : stated ≡ body_bytes f n b
    pub room : inner_bytes f n b ≤ length work
    pub near : j ≤ height f n
    pub flag : c.counted ≤ 1
    pub fresh : c.counted ≡ 0 → k ≡ 0
    pub none : c.counted ≡ 0 → c.count ≡ 0
    pub count : 0 < c.counted → c.count ≡ boxes f n j
    pub place : c.done + 8 ≡ level_start f n b j + k * b + 8 * c.counted
    pub index : k ≤ boxes f n j
    pub last : k ≡ boxes f n j → j ≡ 0
    pub counts : (i : ℕ) → i ≤ height f n → j < i + c.counted → stored_count n b body i ≡ boxes f n i
    pub own : c.own ≡ b * boxes_above f n j
    pub parents : j < height f n → c.parents ≡ b * boxes_above f n (suc j)
    pub idle : (j < height f n → ⊥) → c.parents ≡ 0
    pub fault : boxes_refusal d n body (domain_bytes d footer)
        ≡ otherwise (refusals.refusal c.box_number c.box_place)
        (boxes_from d n (domain_bytes d footer) body j k)
    pub above : j < height f n
        → take (boxes f n (suc j) * b) (drop c.parents work)
        ≡ take (boxes f n (suc j) * b) (drop (level_start f n b (suc j)) body)
    pub mine : 0 < j → take (k * b) (drop c.own work) ≡ take (k * b) (drop (level_start f n b j) body)

  -- With the first p bytes of the body come, and nothing refused for good.
  pub record Going (p : ℕ) : Type 0 where
    pub passed : (footer_refusal d F footer).number ≡ 0
    pub enough : 8 ≤ stated
    pub description : s.description ≡ d
    pub tiles : s.tiles ≡ n
    pub said : s.stated ≡ stated
    pub domain : take b s.domain ≡ domain_bytes d footer
    pub here : c.done + c.kept ≡ p
    pub within : p ≤ stated
    pub there : p ≤ length body
    pub part : c.kept < item_bytes b c.counted
    pub held : take c.kept s.held ≡ take c.kept (drop c.done body)
    pub blank : c.fanout ≡ 0 → Blank c
    pub tree : 0 < c.fanout → InTree

  pub record Holds (p : ℕ) : Type 0 where
    -- what is refused for good is what the body comes to
    pub decided : (c.number ≡ 0 → ⊥)
        → parts_answer d F footer stated (length work) body
        ≡ refused_in c.which (refusals.refusal c.number c.place)
    pub going : c.number ≡ 0 → Going p
