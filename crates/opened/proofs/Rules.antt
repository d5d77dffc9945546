-- What does an opened tree keep and answer by other rules? Where opening answers the same by both, and they agree on
-- the n that is kept, all is the same: what is kept, and each answer and buffer (`SameOpened`). Without a float32
-- dimension that is so of the rules just before float32 was retired (`unmoved`), and of every tree that was opened with
-- the earlier limit (`stays-asked`). A tree that was refused with 28, or with 1, says that when it is asked, before its
-- 10 (`says-described`).
-- Assumes nothing.
use mathlib.Core.Path.{◌≡◌, ap}
use mathlib.Core.List.{List}
use Prim.Native.Nat.{ℕ, ◌≤◌}
use Rattle.description.specs.declared.Description.{Description}
use Rattle.description.specs.Description.{description_refusal}
use Rattle.description.specs.Rules.{Rules, current, before, earlier}
use Rattle.description.proofs.Rules.{Agree, Unretired, unretired, few}
use Rattle.boxes.specs.declared.Window.{Window}
use Rattle.footer.proofs.Rules.{tiles-within}
use Rattle.rtree.specs.declared.Opened.{Opened}
use Rattle.rtree.specs.Opening.{open_answer, open_answer_by}
use Rattle.rtree.proofs.Nested.{opened-by}
use Rattle.rtree.proofs.Rules as trees
use Rattle.query.specs.Query.{refused_answer, query_answer, query_answer_by, query_buffer, query_buffer_by}
use Rattle.query.proofs.Rules.{same_answer, same-buffer, described-first}
use Rattle.opened.specs.Held.{held_tiles, held_tiles_by, held_body, held_body_by}

pub record SameOpened (others : Rules) (d : Description) (F : ℕ) (footer body : List ℕ) : Type 0 where
  pub tiles : held_tiles d F footer body ≡ held_tiles_by others d F footer body
  pub held : held_body d F footer body ≡ held_body_by others d F footer body
  pub answer : (w : Window) → query_answer d (held_tiles d F footer body) (held_body d F footer body) w
      ≡ query_answer_by others d (held_tiles_by others d F footer body) (held_body_by others d F footer body) w
  pub buffer : (w : Window) (out : List ℕ) → query_buffer d (held_tiles d F footer body) (held_body d F footer body) w out
      ≡ query_buffer_by others d (held_tiles_by others d F footer body) (held_body_by others d F footer body) w out

module _ (d : Description) (F : ℕ) (footer body : List ℕ) where
  same-opened : {others : Rules} → open_answer d F footer body ≡ open_answer_by others d F footer body
      → Agree current others d (held_tiles_by others d F footer body) → SameOpened others d F footer body
  same-opened {others} e same =
      let n = held_tiles_by others d F footer body in
      let kept = held_body_by others d F footer body in
      let tiles : held_tiles d F footer body ≡ n = ap (λ (o : Opened). o.tiles) e in
      let held : held_body d F footer body ≡ kept = rw e in
      record {
        tiles = tiles;
        held = held;
        answer = λ w. rw (tiles, held) (same_answer d n kept w same);
        buffer = λ w out. rw (tiles, held) (same-buffer d n kept w same out);
      }

  -- Without a float32 dimension an opened tree keeps and answers what it did just before float32 was retired.
  pub unmoved : Unretired d → SameOpened before d F footer body
  unmoved u = same-opened (trees.unmoved d F footer body u) (unretired d (held_tiles_by before d F footer body) u)

  -- Every such tree that was opened with the earlier limit has the same answer and buffer of every query.
  pub stays-asked : Unretired d → (open_answer_by earlier d F footer body).number ≡ 0 → SameOpened earlier d F footer body
  stays-asked u h =
      let opened = opened-by earlier d F footer body h in
      let most : held_tiles_by earlier d F footer body ≤ earlier.tiles =
      rw opened.2 (tiles-within earlier d F footer opened.0).1
      in
      same-opened (trees.stays_open d F footer body u h) (few d (held_tiles_by earlier d F footer body) u most)

  pub says-described : ((description_refusal d).number ≡ 0 → ⊥) → (w : Window)
      → query_answer d (held_tiles d F footer body) (held_body d F footer body) w ≡ refused_answer (description_refusal d)
  says-described bad w = described-first d (held_tiles d F footer body) (held_body d F footer body) w bad
