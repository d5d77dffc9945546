-- Numbers that are not outside their limits are within them, and a description that passes its check is: so a box has a range a dimension,
-- and 8 to 64 bytes.
-- Assumes nothing.
use mathlib.Core.Path.{◌≡◌}
use mathlib.Core.Bool.{false}
use Prim.Native.Nat.{ℕ, ◌≤◌}
use native.Mathlib.Omega.{arith}
use lib.Dec.{ltb}
use borrow.Author.Tests.{ltb-false, le-ltb}
use Rattle.answers.proofs.Checks.{both-clear, clear, check-clear}
use Rattle.description.specs.declared.Description.{Description}
use Rattle.description.specs.Limits.{least_dimensions, most_dimensions, least_fields, most_fields, least_capacity, most_capacity, outside}
use Rattle.description.specs.Description.{limits_refusal, retired_refusal, description_refusal, sides_of, bytes_of_box}
use Rattle.description.proofs.Tests.{neither}
use Rattle.description.proofs.Sides.{start-most}

module _ (least most x : ℕ) where
  pub within : outside least most x ≡ false → (least ≤ x) × (x ≤ most)
  within h =
      let t = neither (ltb x least) (ltb most x) h in
      (ltb-false x least t.0, ltb-false most x t.1)

  pub not-outside : least ≤ x → x ≤ most → outside least most x ≡ false
  not-outside l m = rw (le-ltb x least l, le-ltb most x m)

-- what a description that is not refused keeps
pub record Kept (d : Description) : Type 0 where
  pub some-dimensions : least_dimensions ≤ d.dimensions
  pub most-dimensions : d.dimensions ≤ most_dimensions
  pub some-fields : least_fields ≤ d.fields
  pub most-fields : d.fields ≤ most_fields
  pub some-capacity : least_capacity ≤ d.capacity
  pub most-capacity : d.capacity ≤ most_capacity
  pub sides : sides_of d.dimensions ≡ d.dimensions
  pub some_bytes : 8 ≤ bytes_of_box d
  pub most_bytes : bytes_of_box d ≤ 64

pub limits-kept : (d : Description) → (limits_refusal d).number ≡ 0 → Kept d
unfolding limits_refusal bytes_of_box
limits-kept d h =
    let a = clear _ _ h in
    let b = clear _ _ a.1 in
    let c = clear _ _ b.1 in
    let dimensions = within least_dimensions most_dimensions d.dimensions (check-clear _ _ _ (omega arith) a.0) in
    let fields = within least_fields most_fields d.fields (check-clear _ _ _ (omega arith) b.0) in
    let capacity = within least_capacity most_capacity d.capacity (check-clear _ _ _ (omega arith) c.0) in
    let bytes = start-most d.kinds (sides_of d.dimensions) in
    record {
      some-dimensions = dimensions.0;
      most-dimensions = dimensions.1;
      some-fields = fields.0;
      most-fields = fields.1;
      some-capacity = capacity.0;
      most-capacity = capacity.1;
      sides = omega arith;
      some_bytes = omega arith;
      most_bytes = omega arith;
    }

pub kept : (d : Description) → (description_refusal d).number ≡ 0 → Kept d
kept d h = limits-kept d (both-clear (limits_refusal d) (retired_refusal d) h).0
