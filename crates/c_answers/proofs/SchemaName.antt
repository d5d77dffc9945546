-- The places of the schema name, over the description that the numbers stand for, by any entry. Assumes nothing.
use Prim.Native.Nat.{ℕ}
use mathlib.Core.Path.{◌≡◌, refl, sym}
use mathlib.Core.Bool.{Bool, true, false, cond}
use mathlib.Core.List.{List, [], ◌∷◌}
use lib.Dec.{eqb}
use lib.ListN.{get_or, take, drop}
use Rattle.description.specs.declared.Description.{Description}
use Rattle.footer.specs.declared.Checked.{Checked}
use Rattle.footer.specs.declared.Entry.{Entry}
use Rattle.footer.specs.Fields.{start}
use Rattle.footer.specs.Checks.{entry_refusal}
use Rattle.footer.specs.Answer.{accepted_checked, refused_checked, entry_checked, entry_name}
use Rattle.c_answers.specs.Places.{name_places}

-- the name's places are those of the schema name
module _ (entry : Entry) (d : Description) (F : ℕ) (bytes : List ℕ) where
  abbrev checked : Checked
  checked = entry_checked entry d F bytes

  name-part : take checked.name_size (drop (cond (eqb checked.number 0) 12 0) bytes) ≡ entry_name entry d F bytes
  unfolding entry_name entry_checked accepted_checked refused_checked start
  name-part = go (eqb (entry_refusal entry d F bytes).number 0) refl
    where
      go : (t : Bool) → t ≡ eqb (entry_refusal entry d F bytes).number 0
          → take checked.name_size (drop (cond (eqb checked.number 0) 12 0) bytes) ≡ entry_name entry d F bytes
      go true e = rw (sym e)
      go false e = rw (sym e)

pub named : {d : Description} {r : Checked} {a : List ℕ} (entry : Description → Entry) (described : Description) (F : ℕ) (bytes : List ℕ)
    → a ≡ (cond (eqb r.number 0) 12 0 ∷ r.name_size ∷ []) → r ≡ entry_checked (entry d) d F bytes → d ≡ described
    → (a ≡ name_places described bytes (entry_checked (entry described) described F bytes))
    × (take (get_or a 1 0) (drop (get_or a 0 0) bytes) ≡ entry_name (entry described) described F bytes)
unfolding start
named entry described F bytes p q e = (rw (p, q, e), rw (p, q, e) (name-part (entry described) described F bytes))
