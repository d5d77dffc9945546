-- A run of boxes as code takes them, against parents that stand in a work buffer. Nothing here is promised to a caller.
-- Assumes nothing.
use Rattle.std.specs.Prelude.{ℕ, ◌+◌, ◌*◌, ◌/◌, cond, List, eqb, take, drop}
use Rattle.answers.specs.Refusals as refusals
use Rattle.answers.specs.Checks.{each, moved}
use Rattle.answers.specs.declared.Refusal.{Refusal}
use Rattle.description.specs.declared.Description.{Description}
use Rattle.description.specs.Description.{sides_of, bytes_of_box}
use Rattle.boxes.specs.Boxes.{box_refusal}
use Rattle.rows.specs.Code.Row.{row_refusal}
use Rattle.parts_state.specs.declared.Cursor.{Cursor}
use Rattle.parts_state.specs.declared.Parts.{Parts}

-- Box i of those in `bytes`, which begin with box `index` of their level: against its parent, of those that stand in
-- the work buffer from `parents` on.
module _ (d : Description) (f parents index : ℕ) (bytes work : List ℕ) where
  abbrev pub child_check : ℕ → Refusal
  child_check i =
      box_refusal d.kinds (sides_of d.dimensions) (take (bytes_of_box d) (drop (i * bytes_of_box d) bytes))
      (take (bytes_of_box d) (drop (parents + (index + i) / f * bytes_of_box d) work)) refusals.outside_parent (i * bytes_of_box d)

-- so many boxes as code checks them: the root, which stands at 16, or a run of children
abbrev pub run_check : Parts → Cursor → List ℕ → List ℕ → ℕ → Refusal
run_check s c work bytes m =
    let d = s.description in
    cond (eqb c.done 16)
    (moved 16
    (row_refusal d.kinds (sides_of d.dimensions) bytes (take (bytes_of_box d) s.domain) refusals.outside_domain))
    (moved c.done (each (child_check d c.fanout c.parents c.index bytes work) 0 m))
