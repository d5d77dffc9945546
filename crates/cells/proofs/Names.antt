-- The schema name by any entry: a name with bytes is there, and it stands from 12 on.
-- Assumes nothing.
use mathlib.Core.Path.{◌≡◌, refl}
use mathlib.Core.Bool.{Bool, true, false}
use mathlib.Core.List.{List}
use Prim.Native.Nat.{ℕ, ◌+◌, ◌≤◌, ◌<◌}
use native.Mathlib.Omega.{arith}
use lib.Dec.{eqb}
use lib.ListN.{length, take, drop}
use borrow.Author.Tests.{eqb-true}
use Rattle.description.specs.declared.Description.{Description}
use Rattle.footer.specs.declared.Checked.{Checked}
use Rattle.footer.specs.declared.Entry.{Entry}
use Rattle.footer.specs.Fields.{start}
use Rattle.footer.specs.Checks.{entry_refusal}
use Rattle.footer.specs.Answer.{accepted_checked, refused_checked, entry_checked, entry_name}
use Rattle.footer.proofs.Fields.{footer-bytes}
use Rattle.footer.proofs.Passed.{passed-by}

module _ (entry : Entry) (d : Description) (F : ℕ) (footer : List ℕ) (c : Checked) (e : c ≡ entry_checked entry d F footer) where
  pub there : 0 < c.name_size → 12 + c.name_size ≤ length footer
  unfolding entry_checked accepted_checked refused_checked
  there = rw e (go (eqb (entry_refusal entry d F footer).number 0) refl)
    where
      go : (t : Bool) → eqb (entry_refusal entry d F footer).number 0 ≡ t
          → 0 < (entry_checked entry d F footer).name_size → 12 + (entry_checked entry d F footer).name_size ≤ length footer
      go true t = rw t (λ some. omega (arith, (passed-by entry d F footer (eqb-true _ 0 t)).all-bytes, footer-bytes d footer))
      go false t = rw t (λ some. absurd (omega arith))

  pub named : take c.name_size (drop 12 footer) ≡ entry_name entry d F footer
  unfolding entry_name start
  named = rw e
