-- The starts that the list of fields comes to, as sums: those that the code works out, and the footer's bytes.
-- Assumes nothing.
use mathlib.Core.Path.{◌≡◌}
use mathlib.Core.List.{List}
use Prim.Native.Nat.{ℕ, ◌+◌, ◌-◌, ◌*◌}
use native.Mathlib.Omega.{arith}
use Rattle.description.specs.declared.Description.{Description}
use Rattle.description.specs.Description.{bytes_of_box}
use Rattle.footer.specs.Fields.{start, footer_bytes, name_size_of}

module _ (d : Description) (footer : List ℕ) where
  pub footer-bytes : footer_bytes d footer ≡ 64 + name_size_of footer + bytes_of_box d + 88 * d.fields
  unfolding footer_bytes
  footer-bytes = omega arith

  pub start-dense : start d footer "dense" ≡ 12 + name_size_of footer
  unfolding start
  start-dense = omega arith

  pub start-domain : start d footer "domain" ≡ 14 + name_size_of footer
  unfolding start
  start-domain = omega arith

  pub null-domain-next : start d footer "dense" + 1 ≡ start d footer "null domain"
  unfolding start
  null-domain-next = omega arith

  pub domain-next : start d footer "dense" + 2 ≡ start d footer "domain"
  unfolding start
  domain-next = omega arith

  pub length_last : footer_bytes d footer - 8 ≡ start d footer "length"
  unfolding start footer_bytes
  length_last = omega arith

  pub start-tiles : start d footer "tiles" ≡ 14 + name_size_of footer + bytes_of_box d
  unfolding start
  start-tiles = omega arith

  -- the fields after the domain that are checked, by where they start
  pub record After (at n : ℕ) : Type 0 where
    pub last-cells : at + 8 ≡ start d footer "last cells"
    pub timestamps : at + 16 ≡ start d footer "timestamps"
    pub deletes : at + 17 ≡ start d footer "deletes"
    pub rtree : at + 18 + 24 * n ≡ start d footer "R-tree"

  pub after : (at n : ℕ) → at ≡ start d footer "tiles" → n ≡ d.fields → After at n
  unfolding start
  after at n p q = record {
    last-cells = omega arith;
    timestamps = omega arith;
    deletes = omega arith;
    rtree = omega arith;
  }
