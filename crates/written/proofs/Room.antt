-- The writer says 26 exactly if everything else is clear and the room is below the body's length (`room-exactly`): no
-- check before that of the room has its number, so that one which refuses is never taken for it.
-- Assumes nothing.
use mathlib.Core.Path.{◌≡◌, refl, ap, sym, ◌∙◌}
use mathlib.Core.Bool.{Bool, true, false, not, cond}
use mathlib.Core.List.{List, ◌∷◌}
use Prim.Native.Nat.{ℕ, ◌*◌, ◌<◌}
use native.Mathlib.Omega.{arith}
use lib.Dec.{ltb, eqb}
use lib.ListN.{length}
use borrow.Author.Tests.{eqb-true, eqb-false, ltb-true, lt-ltb}
use Rattle.answers.specs.Refusals as refusals
use Rattle.answers.specs.Refusals.{refusal, room}
use Rattle.answers.specs.Checks.{check, first, each}
use Rattle.answers.specs.declared.Refusal.{Refusal}
use Rattle.answers.proofs.Checks.{last, check-none}
use Rattle.answers.proofs.Others.{Other, next-other, last-other, check-other, each-other}
use Rattle.description.specs.declared.Description.{Description}
use Rattle.description.specs.Description.{bytes_of_box}
use Rattle.description.proofs.Others.{description-other}
use Rattle.boxes.proofs.Others.{ranges-other}
use Rattle.written.specs.Body.{written_body}
use Rattle.written.specs.Writing.{sizes_refusal, sizes_refusal_by, leaf_refusal, write_refusal, write_refusal_by}
use Rattle.written.proofs.Tree.{Cleared, cleared, written-length, write-room}

-- what is checked before the room
sizes-other : (d : Description) (n f : ℕ) → Other room (sizes_refusal d n f)
unfolding sizes_refusal_by
sizes-other d n f = search (next-other, check-other, last-other, description-other)

leaves-other : (d : Description) (n f : ℕ) (leaves : List ℕ) → Other room (each (leaf_refusal d n f leaves) 0 n)
leaves-other d n f leaves = each-other room refl _ 0 n (λ k low high. ranges-other room refl refl refl refl _ _ _ _)

-- past a check with another number the room's is said by those after it
goes_on : (r : Refusal) (rs : List Refusal) → Other room r → (first (r ∷ rs)).number ≡ room → (r.number ≡ 0) × ((first rs).number ≡ room)
unfolding first
goes_on r rs p h = go (eqb r.number 0) refl h
  where
    go : (t : Bool) → eqb r.number 0 ≡ t → (cond t (first rs) r).number ≡ room → (r.number ≡ 0) × ((first rs).number ≡ room)
    go true e h = (eqb-true r.number 0 e, h)
    go false e h = absurd (eqb-false _ _ p.apart h)

said-true : (t : Bool) → (check t room 0).number ≡ room → t ≡ true
said-true true h = refl
said-true false h = absurd (omega arith)

module _ (d : Description) (n f : ℕ) (leaves : List ℕ) (given : ℕ) where
  abbrev Short : Type 0
  Short = Cleared d n f leaves × (given < length (written_body d n f leaves))

  said-room : (write_refusal d n f leaves given).number ≡ room → Short
  unfolding write_refusal_by
  said-room h =
      let short = ltb given (length (written_body d n f leaves)) in
      let a = goes_on _ _ (sizes-other d n f) h in
      let b = goes_on _ _ (check-other room refl (not (eqb (length leaves) (n * bytes_of_box d))) refusals.bytes (length leaves) refl) a.1 in
      let c = goes_on _ _ (leaves-other d n f leaves) b.1 in
      let only = ap (λ (r : Refusal). r.number) (last (check short room 0) (check-none short room 0 (omega arith))) in
      (cleared d n f leaves a.0 b.0 c.0, ltb-true _ _ (said-true short (sym only ∙ c.1)))

  room-said : Short → write_refusal d n f leaves given ≡ refusal room 0
  room-said s =
      let least = written-length d n f leaves s.0 in
      write-room d n f leaves s.0 given ∙ rw (← least) (rw (lt-ltb _ _ s.1))

  -- 26, at 0, exactly if everything else is clear and the output buffer is shorter than the body
  pub room-exactly : ((write_refusal d n f leaves given).number ≡ room → Short) × (Short → write_refusal d n f leaves given ≡ refusal room 0)
  room-exactly = (said-room, room-said)
