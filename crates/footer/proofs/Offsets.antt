-- The offsets are checked field by field, and the code goes through them in one run: two runs one after the other are one
-- (`two`), and each field starts where the one before it ends (`offsets_run`).
-- Assumes nothing.
use mathlib.Core.Path.{◌≡◌, refl, ap, sym, ◌∙◌}
use mathlib.Core.Bool.{not}
use mathlib.Core.List.{List, [], ◌∷◌}
use Prim.Native.Nat.{ℕ, zero, suc, ◌+◌, ◌-◌, ◌*◌}
use native.Mathlib.Nat.{add-suc}
use native.Mathlib.Omega.{arith}
use lib.Dec.{ltb, eqb}
use Rattle.answers.specs.Refusals as refusals
use Rattle.answers.specs.Runs.{over}
use Rattle.answers.specs.Checks.{check, otherwise, first, each}
use Rattle.answers.specs.declared.Refusal.{Refusal}
use Rattle.answers.proofs.Checks.{regroup, each-add}
use Rattle.order.specs.Little.{little}
use Rattle.description.specs.declared.Description.{Description}
use Rattle.footer.specs.declared.Entry.{Entry}
use Rattle.footer.specs.Fields.{wrong_bytes, file_offsets_refusal, fields_of, from, start, footer_bytes}
use Rattle.footer.specs.Checks.{checks_of}

module _ (footer : List ℕ) (limit : ℕ) where
  abbrev run : ℕ → ℕ → Refusal
  run = file_offsets_refusal footer limit

  -- one offset, by its place
  abbrev one : ℕ → Refusal
  one at = check (not (ltb (little footer at 8) limit)) refusals.offset at

  moved : (at a k m : ℕ) → each (λ i. one (at + 8 * i)) (a + k) m ≡ each (λ i. one (at + 8 * a + 8 * i)) k m
  unfolding over
  moved at a k zero = refl
  moved at a k (suc m) =
      let here : at + 8 * (a + k) ≡ at + 8 * a + 8 * k = omega arith in
      rw (here, ← (add-suc a k), moved at a (suc k) m)

  two : (a b at next : ℕ) (rest : List Refusal) → next ≡ at + 8 * a
      → first (run a at ∷ run b next ∷ rest) ≡ first (run (a + b) at ∷ rest)
  unfolding first file_offsets_refusal
  two a b at next rest e =
      let from : 0 + a ≡ a + 0 = omega arith in
      let both : run (a + b) at ≡ otherwise (run a at) (run b (at + 8 * a)) =
      each-add (λ i. one (at + 8 * i)) 0 a b
      ∙ ap (otherwise (run a at)) (ap (λ k. each (λ i. one (at + 8 * i)) k b) from ∙ moved at a 0 b) in
      rw e (sym (regroup (run a at) (run b (at + 8 * a)) (first rest)) ∙ ap (λ r. otherwise r (first rest)) (sym both))

-- from the R-tree offset on
module _ (entry : Entry) (d : Description) (F : ℕ) (footer : List ℕ) where
  abbrev offsets : ℕ → ℕ → Refusal
  offsets = file_offsets_refusal footer (F - footer_bytes d footer)

  abbrev length_at : Refusal
  length_at = wrong_bytes footer (not (eqb (little footer (start d footer "length") 8) (footer_bytes d footer - 8)))

  abbrev pub offsets_from : List Refusal
  offsets_from = offsets (8 * d.fields + 3) (start d footer "R-tree") ∷ length_at ∷ []

  -- so many offsets from there on, and so many more after them
  more : (c m next : ℕ) (rest : List Refusal) → next ≡ start d footer "R-tree" + 8 * c
      → first (offsets c (start d footer "R-tree") ∷ offsets m next ∷ rest) ≡ first (offsets (c + m) (start d footer "R-tree") ∷ rest)
  more c m = two footer (F - footer_bytes d footer) c m (start d footer "R-tree")

  pub offsets_run : first (checks_of entry d F footer (from "R-tree" (fields_of d footer))) ≡ first offsets_from
  unfolding start
  offsets_run =
      let n = d.fields in
      let all : 1 + n + n + n + n + n + n + n + n + 1 + 1 ≡ 8 * n + 3 = omega arith in
      more 1 n _ _ (omega arith)
      ∙ more (1 + n) n _ _ (omega arith)
      ∙ more (1 + n + n) n _ _ (omega arith)
      ∙ more (1 + n + n + n) n _ _ (omega arith)
      ∙ more (1 + n + n + n + n) n _ _ (omega arith)
      ∙ more (1 + n + n + n + n + n) n _ _ (omega arith)
      ∙ more (1 + n + n + n + n + n + n) n _ _ (omega arith)
      ∙ more (1 + n + n + n + n + n + n + n) n _ _ (omega arith)
      ∙ more (1 + n + n + n + n + n + n + n + n) 1 _ _ (omega arith)
      ∙ more (1 + n + n + n + n + n + n + n + n + 1) 1 _ _ (omega arith)
      ∙ ap (λ c. first (offsets c (start d footer "R-tree") ∷ length_at ∷ [])) all
