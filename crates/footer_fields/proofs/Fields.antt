-- The starts that only reading goes by, as sums: the version, the dense flag from behind, and the lists and the numbers
-- after the R-tree offset.
-- Assumes nothing.
use mathlib.Core.Path.{◌≡◌}
use mathlib.Core.List.{List}
use Prim.Native.Nat.{ℕ, ◌+◌, ◌-◌, ◌*◌}
use native.Mathlib.Omega.{arith}
use Rattle.description.specs.declared.Description.{Description}
use Rattle.footer.specs.Fields.{start}

module _ (d : Description) (footer : List ℕ) where
  pub start-version : start d footer "version" ≡ 0
  unfolding start
  start-version = omega arith

  pub dense-back : start d footer "domain" - 2 ≡ start d footer "dense"
  unfolding start
  dense-back = omega arith

  -- the fields after the deletes flag but for the R-tree offset, by where the tile number starts
  pub record Later (at n : ℕ) : Type 0 where
    pub file-sizes : at + 18 + 0 * (8 * n) ≡ start d footer "file sizes"
    pub file-var-sizes : at + 18 + 1 * (8 * n) ≡ start d footer "file var sizes"
    pub file-validity-sizes : at + 18 + 2 * (8 * n) ≡ start d footer "file validity sizes"
    pub tile-offsets : at + 18 + 24 * n + 8 + 0 * (8 * n) ≡ start d footer "tile offsets"
    pub var-offsets : at + 18 + 24 * n + 8 + 1 * (8 * n) ≡ start d footer "var offsets"
    pub var-sizes : at + 18 + 24 * n + 8 + 2 * (8 * n) ≡ start d footer "var sizes"
    pub validity : at + 18 + 24 * n + 8 + 3 * (8 * n) ≡ start d footer "validity"
    pub mins : at + 18 + 24 * n + 8 + 4 * (8 * n) ≡ start d footer "mins"
    pub maxes : at + 18 + 24 * n + 8 + 5 * (8 * n) ≡ start d footer "maxes"
    pub sums : at + 18 + 24 * n + 8 + 6 * (8 * n) ≡ start d footer "sums"
    pub null-counts : at + 18 + 24 * n + 8 + 7 * (8 * n) ≡ start d footer "null counts"
    pub fragment : at + 18 + 24 * n + 8 + 64 * n ≡ start d footer "fragment"
    pub conditions : at + 18 + 24 * n + 8 + 64 * n + 8 ≡ start d footer "conditions"
    pub footer-length : at + 18 + 24 * n + 8 + 64 * n + 16 ≡ start d footer "length"

  pub later : (at n : ℕ) → at ≡ start d footer "tiles" → n ≡ d.fields → Later at n
  unfolding start
  later at n p q = record {
    file-sizes = omega arith;
    file-var-sizes = omega arith;
    file-validity-sizes = omega arith;
    tile-offsets = omega arith;
    var-offsets = omega arith;
    var-sizes = omega arith;
    validity = omega arith;
    mins = omega arith;
    maxes = omega arith;
    sums = omega arith;
    null-counts = omega arith;
    fragment = omega arith;
    conditions = omega arith;
    footer-length = omega arith;
  }
