-- The R-tree body: fanout u32, level number L u32, then per level a u64 count and its boxes.
-- Assumes nothing.
use Rattle.std.specs.Prelude.{ℕ, ◌+◌, ◌-◌, ◌*◌, not, List, [], ◌∷◌, ltb, eqb, length, take, drop}
use Rattle.answers.specs.Refusals as refusals
use Rattle.answers.specs.Checks.{check, first, each}
use Rattle.answers.specs.declared.Refusal.{Refusal}
use Rattle.order.specs.Little.{little}
use Rattle.description.specs.Limits.{least_fanout, most_fanout, outside}
use Rattle.tree.specs.Shape.{boxes, height, levels, level_start, body_bytes}

-- the body's own fields
abbrev pub fanout_of : List ℕ → ℕ
fanout_of body = little body 0 4

abbrev pub levels_of : List ℕ → ℕ
levels_of body = little body 4 4

-- The shape's checks, by the numbers that they read. Of so many bytes: fewer than 8, 2; the fanout, 13.
unfoldable pub front_refusal : ℕ → ℕ → Refusal
front_refusal size f = first (
    check (ltb size 8) refusals.bytes size
    ∷ check (outside least_fanout most_fanout f) refusals.fanout 0
    ∷ []
    )

-- A stored level number other than L, 14; so many bytes, other than those of the whole, 2.
unfoldable pub size_refusal : ℕ → ℕ → ℕ → ℕ → Refusal
size_refusal l whole size stored = first (
    check (not (eqb stored l)) refusals.levels 4
    ∷ check (not (eqb size whole)) refusals.bytes size
    ∷ []
    )

module _ (f n b : ℕ) where
  -- a level's count stands before its boxes
  abbrev pub count_place : ℕ → ℕ
  count_place j = level_start f n b j - 8

  -- of the level at distance j, 14
  abbrev pub count_refusal : ℕ → ℕ → Refusal
  count_refusal stored j = check (not (eqb stored (boxes f n j))) refusals.levels (count_place j)

  -- each level's count in order, from the root's: `stored` says what is stored for each distance
  unfoldable pub counts_refusal : (ℕ → ℕ) → Refusal
  counts_refusal stored = each (λ l. count_refusal (stored (height f n - l)) (height f n - l)) 0 (levels f n)

module _ (n b : ℕ) (body : List ℕ) where
  -- the count that is stored for the level at distance j
  abbrev pub stored_count : ℕ → ℕ
  stored_count j = little body (count_place (fanout_of body) n b j) 8

  -- the shape
  unfoldable pub shape_refusal : Refusal
  shape_refusal = first (
      front_refusal (length body) (fanout_of body)
      ∷ size_refusal (levels (fanout_of body) n) (body_bytes (fanout_of body) n b) (length body) (levels_of body)
      ∷ counts_refusal (fanout_of body) n b stored_count
      ∷ []
      )

  -- the place of box k of the level at distance j from the leaves, and the box's bytes. A box has b bytes.
  abbrev pub place_of : ℕ → ℕ → ℕ
  place_of j k = level_start (fanout_of body) n b j + k * b

  abbrev pub box_at : ℕ → ℕ → List ℕ
  box_at j k = take b (drop (place_of j k) body)
