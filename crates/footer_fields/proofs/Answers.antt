-- The large answer is made by the same test as the small one, by any entry; and what is there of a footer that passes.
-- Assumes nothing.
use mathlib.Core.Path.{◌≡◌, refl}
use mathlib.Core.Bool.{Bool, true, false}
use mathlib.Core.List.{List}
use Prim.Native.Nat.{ℕ}
use lib.Dec.{eqb}
use Rattle.description.specs.declared.Description.{Description}
use Rattle.footer.specs.declared.Checked.{Checked}
use Rattle.footer.specs.declared.Entry.{Entry}
use Rattle.footer.specs.Checks.{entry_refusal}
use Rattle.footer.specs.Answer.{accepted_checked, refused_checked, entry_checked, entry_answer}
use Rattle.footer.proofs.Passed.{ready_by}
use Rattle.footer_fields.specs.Code.Places.{Whole, footer_of}

module _ (entry : Entry) (d : Description) (F : ℕ) (footer : List ℕ) (c : Checked) (e : c ≡ entry_checked entry d F footer) where
  pub whole : c.number ≡ 0 → Whole d footer c
  whole z =
      let r = ready_by entry d F footer c e z in
      (r.checked, r.pass.head.description.most-fields, r.pass.all-bytes)

  pub large : footer_of d footer c ≡ entry_answer entry d F footer
  unfolding entry_checked entry_answer accepted_checked refused_checked
  large = rw e (go (eqb (entry_refusal entry d F footer).number 0) refl)
    where
      go : (t : Bool) → eqb (entry_refusal entry d F footer).number 0 ≡ t
          → footer_of d footer (entry_checked entry d F footer) ≡ entry_answer entry d F footer
      go true e = rw e
      go false e = rw (e, e)
