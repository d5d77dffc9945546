-- Writing a tree: its checks in order, its answer, and what the output buffer holds afterwards.
-- Assumes nothing.
use Rattle.std.specs.Prelude.{ℕ, Result, Ok, Err, ◌*◌, not, cond, List, [], ◌∷◌, ◌++◌, ltb, eqb, length, drop}
use Rattle.answers.specs.Refusals as refusals
use Rattle.answers.specs.Checks.{check, first, each}
use Rattle.answers.specs.declared.Refusal.{Refusal}
use Rattle.answers.specs.declared.Refused.{Refused}
use Rattle.answers.specs.Told.{said}
use Rattle.description.specs.declared.Description.{Description}
use Rattle.description.specs.Limits.{least_tiles, least_fanout, most_fanout, outside}
use Rattle.description.specs.Description.{sides_of, bytes_of_box}
use Rattle.description.specs.Rules.{Rules, current, described_by}
use Rattle.boxes.specs.Boxes.{ranges_refusal}
use Rattle.tree.specs.Shape.{body_bytes}
use Rattle.written.specs.declared.Written.{Written}
use Rattle.written.specs.Body.{written_box, written_body}

-- a refusal has no length
abbrev pub refused_writing : Refusal → Written
refused_writing r = record { number = r.number; place = r.place; length = 0 }

abbrev pub length_told : ℕ → Written
length_told bytes = record { number = 0; place = 0; length = bytes }

-- what code tells: the length, or what the error says
unfoldable pub told_writing : Result ℕ Refused → Written
told_writing (Ok bytes) = length_told bytes
told_writing (Err e) = refused_writing (said e)

-- 1, and what the rules say after it; 10, 13: what is checked of the description, n and f, which the caller gives
unfoldable pub sizes_refusal_by : Rules → Description → ℕ → ℕ → Refusal
sizes_refusal_by rules d n f = first (
    described_by rules d
    ∷ check (outside least_tiles rules.tiles n) refusals.tiles 0
    ∷ check (outside least_fanout most_fanout f) refusals.fanout 0
    ∷ []
    )

-- the body's length, 8 + 8L + B times all boxes
unfoldable pub length_answer_by : Rules → Description → ℕ → ℕ → Written
length_answer_by rules d n f =
    cond (eqb (sizes_refusal_by rules d n f).number 0)
    (length_told (body_bytes f n (bytes_of_box d)))
    (refused_writing (sizes_refusal_by rules d n f))

-- the ranges of leaf k, as stored ones, placed in the lent leaves
abbrev pub leaf_refusal : Description → ℕ → ℕ → List ℕ → ℕ → Refusal
leaf_refusal d n f leaves k =
    ranges_refusal d.kinds (sides_of d.dimensions) (written_box d n f leaves 0 k) (k * bytes_of_box d)

module _ (rules : Rules) (d : Description) (n f : ℕ) (leaves : List ℕ) where
  -- Checks: 1 and what is said after it, 10, 13, leaf bytes not n times B as 2, ranges as stored ones, then 26 (place 0)
  -- exactly if the output buffer is shorter than the body.
  unfoldable pub write_refusal_by : ℕ → Refusal
  write_refusal_by room = first (
      sizes_refusal_by rules d n f
      ∷ check (not (eqb (length leaves) (n * bytes_of_box d))) refusals.bytes (length leaves)
      ∷ each (leaf_refusal d n f leaves) 0 n
      ∷ check (ltb room (length (written_body d n f leaves))) refusals.room 0
      ∷ []
      )

  -- Success tells the body's length.
  unfoldable pub write_answer_by : ℕ → Written
  write_answer_by room =
      cond (eqb (write_refusal_by room).number 0)
      (length_told (length (written_body d n f leaves)))
      (refused_writing (write_refusal_by room))

  -- A refusal writes nothing; bytes past the body stay.
  unfoldable pub write_buffer_by : List ℕ → List ℕ
  write_buffer_by out =
      cond (eqb (write_refusal_by (length out)).number 0)
      (written_body d n f leaves ++ drop (length (written_body d n f leaves)) out)
      out

-- by the rules of this library
module _ (d : Description) (n f : ℕ) where
  abbrev pub sizes_refusal : Refusal
  sizes_refusal = sizes_refusal_by current d n f

  abbrev pub length_answer : Written
  length_answer = length_answer_by current d n f

module _ (d : Description) (n f : ℕ) (leaves : List ℕ) where
  abbrev pub write_refusal : ℕ → Refusal
  write_refusal = write_refusal_by current d n f leaves

  abbrev pub write_answer : ℕ → Written
  write_answer = write_answer_by current d n f leaves

  abbrev pub write_buffer : List ℕ → List ℕ
  write_buffer = write_buffer_by current d n f leaves
