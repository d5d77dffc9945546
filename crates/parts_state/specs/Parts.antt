-- Opening a body that arrives in parts: what footer, stated length, the work buffer's room and all bytes received come
-- to, however they were cut into blocks.
-- Assumes nothing.
use Rattle.std.specs.Prelude.{ℕ, ◌-◌, ◌*◌, min, not, ◌&&◌, cond, List, [], ◌∷◌, ltb, leb, eqb, length}
use Rattle.answers.specs.Refusals as refusals
use Rattle.answers.specs.Checks.{check, otherwise, first, each}
use Rattle.answers.specs.declared.Refusal.{Refusal}
use Rattle.description.specs.declared.Description.{Description}
use Rattle.description.specs.Description.{bytes_of_box}
use Rattle.description.specs.Rules.{Rules, current}
use Rattle.description.specs.Limits.{least_fanout, most_fanout, outside}
use Rattle.tree.specs.Shape.{boxes, boxes_above, height, levels, level_start, body_bytes}
use Rattle.footer.specs.Fields.{tiles_of}
use Rattle.footer.specs.Checks.{footer_refusal_by}
use Rattle.rtree.specs.declared.Opened.{Opened}
use Rattle.rtree.specs.Body.{fanout_of, levels_of, count_place, stored_count}
use Rattle.rtree.specs.Opening.{open_answer_by, refused_in}

-- What the inner boxes take of the work buffer: B times the boxes above the leaf level.
abbrev pub inner_bytes : ℕ → ℕ → ℕ → ℕ
inner_bytes f n b = b * boxes_above f n 0

-- The shape before the counts, with the work buffer's room, by the numbers that are read. Of a body of `stated` bytes
-- `have` bytes are there: the fanout f is if 4 are, the level number l if 8 are, and a number received in part shows
-- nothing. Stated under 8, 2; 13; L, 14; the stated length other than the whole's, 2; a work buffer of fewer bytes than
-- the inner boxes take, 21. The shape's 2 always reads the stated length and has it as place.
unfoldable pub front_shown : ℕ → ℕ → ℕ → ℕ → ℕ → ℕ → ℕ → ℕ → Refusal
front_shown stated room have f l right whole inner = first (
    check (ltb stated 8) refusals.bytes stated
    ∷ check (leb 4 have && outside least_fanout most_fanout f) refusals.fanout 0
    ∷ check (leb 8 have && not (eqb l right)) refusals.levels 4
    ∷ check (leb 4 have && not (eqb stated whole)) refusals.bytes stated
    ∷ check (leb 4 have && ltb room inner) refusals.work 0
    ∷ []
    )

-- Of so many tiles, and boxes of b bytes, with `have` bytes of the body there.
module _ (n b have : ℕ) (got : List ℕ) where
  abbrev f : ℕ
  f = fanout_of got

  -- the count of the level at distance j, once it is there whole
  abbrev pub count_shown : ℕ → Refusal
  count_shown j =
      check (leb (level_start f n b j) have && not (eqb (stored_count n b got j) (boxes f n j)))
      refusals.levels (count_place f n b j)

  -- each level's count in order, from the root's
  unfoldable pub counts_shown : Refusal
  counts_shown = each (λ l. count_shown (height f n - l)) 0 (levels f n)

  -- a shape fault, or 21, that these bytes already show, the first in the order of the checks
  unfoldable pub shown_refusal : ℕ → ℕ → Refusal
  shown_refusal stated room =
      otherwise
      (front_shown stated room have f (levels_of got) (levels f n) (body_bytes f n b) (inner_bytes f n b)) counts_shown

-- The work buffer is neither footer nor body: 21 says the first.
abbrev pub which_of : ℕ → ℕ
which_of number = cond (eqb number refusals.work) 0 1

-- The footer's refusals; then what is shown by the bytes up to the stated length; then, where the bytes received add up
-- to it, opening the whole. Failing that 2, at the bytes received where they fell short, and at the stated length where
-- they went past it.
unfoldable pub parts_answer_by : Rules → Description → ℕ → List ℕ → ℕ → ℕ → List ℕ → Opened
parts_answer_by rules d F footer stated room got =
    let have = min (length got) stated in
    let shown = shown_refusal (tiles_of d footer) (bytes_of_box d) have got stated room in
    cond (eqb (footer_refusal_by rules d F footer).number 0)
    (cond (eqb shown.number 0)
    (cond (eqb (length got) stated) (open_answer_by rules d F footer got)
    (refused_in 1 (refusals.refusal refusals.bytes have)))
    (refused_in (which_of shown.number) shown))
    (refused_in 0 (footer_refusal_by rules d F footer))

-- by the rules of this library
abbrev pub parts_answer : Description → ℕ → List ℕ → ℕ → ℕ → List ℕ → Opened
parts_answer = parts_answer_by current
