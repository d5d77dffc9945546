-- What is the shape of a packed tree: how many boxes has each level, whose children are they, where do they stand?
-- f is the fanout, n the number of tiles, b the bytes of a box (B). A level is named by its distance from the leaves:
-- level l is at distance L - l, the leaves are at distance 0.
-- Assumes nothing.
use Rattle.std.specs.Prelude.{ℕ, zero, suc, ◌+◌, ◌-◌, ◌*◌, ◌/◌, min, Bool, ◌||◌, cond, List, [], ◌∷◌, leb, ltb, get_or, replicate}
use Rattle.answers.specs.Laid.{laid}
use Rattle.answers.specs.Runs.{sum, join}
use Rattle.description.specs.Limits.{least_tiles, most_tiles, least_fanout, most_fanout, outside}
use Rattle.tree.specs.declared.Shape.{Shape}

-- That count divided by f, rounded up.
unfoldable pub up : ℕ → ℕ → ℕ
up f c = (c + (f - 1)) / f

-- Level L has one box per tile. Counting upward, a level's count is worked out from the level below it.
unfoldable pub boxes : ℕ → ℕ → ℕ → ℕ
boxes f n zero = n
boxes f n (suc j) = up f (boxes f n j)

-- Box k of a level, here at distance j + 1, has as many children as the smaller of f and c - kf, where the next level
-- has c boxes. They are boxes kf to kf + f - 1 of the next level, as far as they exist.
unfoldable pub children : ℕ → ℕ → ℕ → ℕ → ℕ
children f n j k = min f (boxes f n j - k * f)

-- Until a level has one box: how far above a level of c boxes that is. The first number is the most steps that it
-- takes.
unfoldable pub height_above : ℕ → ℕ → ℕ → ℕ
height_above zero f c = 0
height_above (suc steps) f c = cond (leb c 1) 0 (suc (height_above steps f (up f c)))

-- That is level 1: its distance, the root's. Each level has fewer boxes than the one below it, so n steps are enough.
unfoldable pub height : ℕ → ℕ → ℕ
height f n = height_above n f n

-- L. So n = 1 gives L = 1.
unfoldable pub levels : ℕ → ℕ → ℕ
levels f n = suc (height f n)

-- All boxes.
unfoldable pub all_boxes : ℕ → ℕ → ℕ
all_boxes f n = sum (λ j. boxes f n j) 0 (levels f n)

-- The boxes of the levels above distance j, which the body has before those of distance j.
unfoldable pub boxes_above : ℕ → ℕ → ℕ → ℕ
boxes_above f n j = sum (λ i. boxes f n i) (suc j) (height f n - j)

-- Body: fanout u32, level number L u32, then per level a u64 count and its boxes. So the first box of the level at
-- distance j stands after the counts of the levels from the root's to its own, and after the boxes of those above it.
unfoldable pub level_start : ℕ → ℕ → ℕ → ℕ → ℕ
level_start f n b j = 8 + 8 * (levels f n - j) + b * boxes_above f n j

-- 8 + 8L + B times all boxes.
unfoldable pub body_bytes : ℕ → ℕ → ℕ → ℕ
body_bytes f n b = 8 + 8 * levels f n + b * all_boxes f n

-- The most bytes of a box: four dimensions of 16.
abbrev pub most_box_bytes : ℕ
most_box_bytes = 64

-- No tree has this fanout and so many tiles, or no box has so many bytes.
abbrev pub outside_limits : ℕ → ℕ → ℕ → Bool
outside_limits f n b = outside least_tiles most_tiles n || (outside least_fanout most_fanout f || ltb most_box_bytes b)

-- For each level, from the leaves' to the root's: the place of its first box, and its box count.
unfoldable pub places_and_counts : ℕ → ℕ → ℕ → List ℕ
places_and_counts f n b = join (λ j. level_start f n b j ∷ boxes f n j ∷ []) 0 (levels f n)

-- The shape as one value. Past the root the table has 0; its 50 places are enough for 2 ^ 24 tiles. Outside the limits
-- every number is 0.
unfoldable pub shape_of : ℕ → ℕ → ℕ → Shape
shape_of f n b =
    cond (outside_limits f n b)
    (record { levels = 0; boxes = 0; bytes = 0; table = replicate 50 0 })
    (record {
      levels = levels f n;
      boxes = all_boxes f n;
      bytes = body_bytes f n b;
      table = laid (places_and_counts f n b) (replicate 50 0);
    })

-- Of the level at distance j, in a table of places and counts: the place of its first box, and its box count.
abbrev pub place_in : List ℕ → ℕ → ℕ
place_in table j = get_or table (2 * j) 0

abbrev pub count_in : List ℕ → ℕ → ℕ
count_in table j = get_or table (2 * j + 1) 0
