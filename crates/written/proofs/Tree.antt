-- What holds of the tree that is written, where nothing but the room may be wanting (`Cleared`): its length (`written-length`), its leaf level
-- (`written-leaves`), and that it is accepted (`written-opens`).
-- Assumes nothing.
use mathlib.Core.Path.{◌≡◌, ap, ◌∙◌}
use mathlib.Core.Bool.{false, not}
use mathlib.Core.List.{List}
use Prim.Native.Nat.{ℕ, ◌*◌, ◌<◌}
use native.Mathlib.Omega.{arith}
use lib.ListN.{length, take, drop}
use lib.Dec.{ltb, eqb}
use borrow.Author.Tests.{eq-eqb, eqb-true, not-false}
use Rattle.answers.specs.Refusals as refusals
use Rattle.answers.specs.Refusals.{none}
use Rattle.answers.specs.Checks.{check, each}
use Rattle.answers.specs.declared.Refusal.{Refusal}
use Rattle.answers.proofs.Checks.{past, past-check, ended, clear, check-clear, check-none, last, each-clear, all-clear}
use Rattle.answers.proofs.Joined.{cut-join}
use Rattle.description.specs.declared.Description.{Description}
use Rattle.description.specs.Limits.{least_tiles, most_tiles, least_fanout, most_fanout, Sizes}
use Rattle.description.specs.Description.{sides_of, bytes_of_box, description_refusal}
use Rattle.description.proofs.Limits.{within, not-outside}
use Rattle.boxes.proofs.Moving.{ranges-none}
use Rattle.boxes.proofs.Holding.{ranges-numbers}
use Rattle.tree.specs.Shape.{boxes, level_start, body_bytes}
use Rattle.written.specs.Body.{written_box, written_body}
use Rattle.written.specs.Opened.{Opens}
use Rattle.written.specs.Writing.{sizes_refusal, sizes_refusal_by, leaf_refusal, write_refusal, write_refusal_by}
use Rattle.written.proofs.Body.{body-length, level-boxes}
use Rattle.written.proofs.Boxes.{box-sized, box-nested, box-sound}
use Rattle.written.proofs.Opened.{Packed, opens}

-- what is passed before the room is asked for
pub record Cleared (d : Description) (n f : ℕ) (leaves : List ℕ) : Type 0 where
  pub described : (description_refusal d).number ≡ 0
  pub sizes : Sizes n f
  pub whole : length leaves ≡ n * bytes_of_box d
  pub sound : (k : ℕ) → k < n → (leaf_refusal d n f leaves k).number ≡ 0

module _ (d : Description) (n f : ℕ) (leaves : List ℕ) where
  pub sizes-clear : (sizes_refusal d n f).number ≡ 0 → ((description_refusal d).number ≡ 0) × Sizes n f
  unfolding sizes_refusal_by
  sizes-clear h =
      let a = clear _ _ h in
      let b = clear _ _ a.1 in
      let c = clear _ _ b.1 in
      let tiles = within least_tiles most_tiles n (check-clear _ _ _ (omega arith) b.0) in
      let fanout = within least_fanout most_fanout f (check-clear _ _ _ (omega arith) c.0) in
      (a.0, record { some = tiles.0; most = tiles.1; least = fanout.0; widest = fanout.1 })

  -- where no check before that of the room refuses
  pub cleared : (sizes_refusal d n f).number ≡ 0 → (check (not (eqb (length leaves) (n * bytes_of_box d))) refusals.bytes (length leaves)).number ≡ 0
      → (each (leaf_refusal d n f leaves) 0 n).number ≡ 0 → Cleared d n f leaves
  cleared a b c =
      let s = sizes-clear a in
      record {
        described = s.0;
        sizes = s.1;
        whole = eqb-true _ _ (not-false _ (check-clear _ _ _ (omega arith) b));
        sound = λ k l. each-clear (leaf_refusal d n f leaves) 0 n c k (omega arith) (omega arith);
      }

  -- what is not refused has passed them
  pub write-cleared : (room : ℕ) → (write_refusal d n f leaves room).number ≡ 0 → Cleared d n f leaves
  unfolding write_refusal_by
  write-cleared room h =
      let a = clear _ _ h in
      let b = clear _ _ a.1 in
      let c = clear _ _ b.1 in
      cleared a.0 b.0 c.0

  module _ (c : Cleared d n f leaves) where
    sizes-none : sizes_refusal d n f ≡ none
    unfolding sizes_refusal_by
    sizes-none =
        past _ _ c.described
        ∙ past-check _ _ _ _ (not-outside least_tiles most_tiles n c.sizes.some c.sizes.most)
        ∙ past-check _ _ _ _ (not-outside least_fanout most_fanout f c.sizes.least c.sizes.widest)
        ∙ ended

    leaves-clear : each (leaf_refusal d n f leaves) 0 n ≡ none
    leaves-clear = all-clear (leaf_refusal d n f leaves) 0 n (λ k a l. ranges-none d.kinds (sides_of d.dimensions) _ _ (c.sound k (omega arith)))

    pub written-length : length (written_body d n f leaves) ≡ body_bytes f n (bytes_of_box d)
    written-length =
        body-length f n (bytes_of_box d) (written_box d n f leaves)
        (λ j k h. box-sized d n f leaves (omega (arith, c.sizes.least)) c.whole j k)

    -- and then only the room is asked for
    pub write-room : (room : ℕ) → write_refusal d n f leaves room ≡ check (ltb room (body_bytes f n (bytes_of_box d))) refusals.room 0
    unfolding write_refusal_by
    write-room room =
        let short = ltb room (length (written_body d n f leaves)) in
        let bytes : not (eqb (length leaves) (n * bytes_of_box d)) ≡ false = rw (eq-eqb (length leaves) (n * bytes_of_box d) c.whole) in
        past _ _ (ap (λ (r : Refusal). r.number) sizes-none)
        ∙ past-check _ _ _ _ bytes
        ∙ past _ _ (ap (λ (r : Refusal). r.number) leaves-clear)
        ∙ last (check short refusals.room 0) (check-none short refusals.room 0 (omega arith))
        ∙ rw written-length

    -- the leaf level is the lent leaves byte by byte
    pub written-leaves : take (n * bytes_of_box d) (drop (level_start f n (bytes_of_box d) 0) (written_body d n f leaves)) ≡ leaves
    unfolding boxes written_box
    written-leaves =
        level-boxes f n (bytes_of_box d) (written_box d n f leaves)
        (λ j k h. box-sized d n f leaves (omega (arith, c.sizes.least)) c.whole j k) 0 (omega arith)
        ∙ cut-join (bytes_of_box d) n leaves c.whole

    pub written-packed : Packed d n f (written_box d n f leaves)
    written-packed =
        let hf : 0 < f = omega (arith, c.sizes.least) in
        record {
          sizes = c.sizes;
          sized = λ j k h. box-sized d n f leaves hf c.whole j k;
          sound = λ j k h. box-sound d n f leaves hf c.whole c.sound j k;
          nested = λ j k h l. box-nested d n f leaves hf c.whole
              (λ i b. ranges-numbers d.kinds (sides_of d.dimensions) _ _ (c.sound i b)) j k l;
        }

  pub written-opens : (room : ℕ) → (write_refusal d n f leaves room).number ≡ 0 → Opens d n f (written_body d n f leaves)
  written-opens room h = opens (written-packed (write-cleared room h))
