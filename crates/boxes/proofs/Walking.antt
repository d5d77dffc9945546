-- What the loops over a box's dimensions share: at dimension i the place is where that dimension starts, so the range that is read there and what
-- is told of it are those of the box's bytes, and the next place is where the next dimension starts.
-- Assumes nothing.
use mathlib.Core.Path.{◌≡◌, refl, sym, ◌∙◌}
use mathlib.Core.List.{List}
use Prim.Native.Nat.{ℕ, zero, suc, ◌+◌, ◌≤◌, ◌<◌}
use native.Mathlib.Nat.{zero-add}
use native.Mathlib.Omega.{arith}
use lib.ListN.{get_or, set}
use mir.Syntax.{w64}
use mir.Val.{Fits}
use Rattle.answers.specs.Runs.{over}
use Rattle.answers.specs.declared.Refusal.{Refusal}
use Rattle.ranges.specs.declared.Range.{Range}
use Rattle.description.specs.declared.Dimension.{Dimension}
use Rattle.description.specs.Kinds.{range_bytes}
use Rattle.description.specs.Description.{kind_at, side_start}
use Rattle.ranges.specs.Ranges.{ends_of, range_at}
use Rattle.verdicts.specs.declared.Verdict.{Verdict}
use Rattle.verdicts.specs.Verdicts.{verdict, verdict_at, stored_refusal}
use Rattle.verdicts.proofs.Reading.{read-verdict}
use Rattle.boxes.specs.declared.Side.{Side}
use Rattle.boxes.specs.Boxes.{no_box, box_of}
use Rattle.description.proofs.Sides.{start-next, start-most}

-- what is told of dimension i, in a box that starts at `start`
abbrev pub told_at : List Dimension → List ℕ → ℕ → ℕ → Refusal
told_at kinds bytes start i =
    stored_refusal (verdict_at (kind_at kinds i) bytes (side_start kinds i)) (start + side_start kinds i)

module _ (kinds : List Dimension) (i at : ℕ) (here : at ≡ side_start kinds i) where
  pub next_place : (w : ℕ) → w ≡ range_bytes (kind_at kinds i) → at + w ≡ side_start kinds (i + 1)
  next_place w e = rw (here, e) (sym (start-next kinds i))

  pub place-fits : (w : ℕ) → w ≡ range_bytes (kind_at kinds i) → i ≤ 4 → Fits w64 (at + w)
  place-fits w e h =
      let z = next_place w e in
      record { fits = omega (arith, start-most kinds (i + 1)) }

  module _ (bytes : List ℕ) (byte : (j : ℕ) → get_or bytes j 0 < 256) (r : Range) (read : r ≡ range_at (kind_at kinds i) bytes at) where
    pub told_here : (j : Verdict) (told : Refusal) → j ≡ verdict (ends_of r) r → told ≡ stored_refusal j at → told ≡ told_at kinds bytes 0 i
    told_here j told p q = q ∙ rw (p, read, read-verdict bytes byte (kind_at kinds i) at, zero-add, here)

-- a box is filled place by place
module _ (kinds : List Dimension) (bytes : List ℕ) where
  pub box-none : box_of kinds 0 bytes ≡ no_box
  unfolding box_of over
  box-none = refl

  box-next : (i : ℕ) → i < 4
      → set (box_of kinds i bytes) i (record { range = range_at (kind_at kinds i) bytes (side_start kinds i) }) ≡ box_of kinds (i + 1) bytes
  unfolding box_of over
  box-next zero h = refl
  box-next (suc zero) h = refl
  box-next (suc (suc zero)) h = refl
  box-next (suc (suc (suc zero))) h = refl
  box-next (suc (suc (suc (suc i)))) h = absurd (omega arith)

  -- with what was read at the place of dimension i
  pub box-on : (i : ℕ) → i < 4 → {at : ℕ} → at ≡ side_start kinds i → {sides : List Side} → sides ≡ box_of kinds i bytes
      → {r : Range} → r ≡ range_at (kind_at kinds i) bytes at → set sides i (record { range = r }) ≡ box_of kinds (i + 1) bytes
  box-on i h here filled read = rw (filled, read, here) (box-next i h)
