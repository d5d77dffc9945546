-- What an opened tree holds: an accepted one has a tile at least, so that a body is held exactly where n is not 0; and an answer
-- that refuses nothing comes of an accepted tree (`without-premise`).
-- Assumes nothing.
use mathlib.Core.Path.{◌≡◌, refl, sym, ap, ◌∙◌}
use mathlib.Core.Bool.{Bool, true, false, cond}
use mathlib.Core.List.{List, []}
use Prim.Native.Nat.{ℕ, ◌<◌}
use native.Mathlib.Omega.{arith}
use lib.Dec.{eqb}
use borrow.Author.Tests.{eq-eqb, ne_eqb, eqb-true}
use Rattle.answers.specs.declared.Refusal.{Refusal}
use Rattle.description.specs.declared.Description.{Description}
use Rattle.footer.specs.Fields.{tiles_of, domain_bytes}
use Rattle.footer.specs.Checks.{footer_refusal}
use Rattle.footer.proofs.Passed.{passed}
use Rattle.rtree.specs.Body.{fanout_of, levels_of}
use Rattle.rtree.specs.Opening.{body_refusal, refused_in, open_answer, open_answer_by, Accepted}
use Rattle.rtree.proofs.Nested.{opened-accepted}
use Rattle.boxes.specs.declared.Window.{Window}
use Rattle.query.specs.declared.Answer.{Answer}
use Rattle.query.specs.Query.{Promises}
use Rattle.query.proofs.Promised.{passed-all, answer-clear}
use Rattle.opened.specs.Held.{held_tiles, held_body, kept_part, OpenedPromises}

by_cases : (r s : Refusal) (n f l : ℕ) (body : List ℕ) → (r.number ≡ 0 → 0 < n) → (t u : Bool) → eqb r.number 0 ≡ t → eqb s.number 0 ≡ u
    → (let o = cond t (cond u (record { number = 0; place = 0; which = 0; tiles = n; fanout = f; levels = l }) (refused_in 1 s))
    (refused_in 0 r) in
    kept_part body o.tiles ≡ cond (eqb o.number 0) body [])
by_cases r s n f l body some true true a b = rw (ne_eqb n 0 (λ h. omega (arith, some (eqb-true r.number 0 a))))
by_cases r s n f l body some true false a b = rw b
by_cases r s n f l body some false u a b = rw a

pub kept-held : (d : Description) (F : ℕ) (footer body : List ℕ) → kept_part body (held_tiles d F footer body) ≡ held_body d F footer body
unfolding open_answer_by
kept-held d F footer body =
    by_cases (footer_refusal d F footer) (body_refusal d (tiles_of d footer) (domain_bytes d footer) body) (tiles_of d footer)
    (fanout_of body) (levels_of body) body (λ h. omega (arith, (passed d F footer h).some-tiles)) _ _ refl refl

-- a refused tree holds no tiles
no-tiles : (r s : Refusal) (n f l : ℕ) (t u : Bool) → eqb r.number 0 ≡ t → eqb s.number 0 ≡ u
    → (let o = cond t (cond u (record { number = 0; place = 0; which = 0; tiles = n; fanout = f; levels = l }) (refused_in 1 s)) (refused_in 0 r) in
    0 < o.tiles → o.number ≡ 0)
no-tiles r s n f l true true a b h = refl
no-tiles r s n f l true false a b h = absurd (omega arith)
no-tiles r s n f l false u a b h = absurd (omega arith)

-- so one that holds some is accepted
module _ (d : Description) (F : ℕ) (footer body : List ℕ) where
  held-opened : 0 < held_tiles d F footer body → (open_answer d F footer body).number ≡ 0
  unfolding open_answer_by
  held-opened =
      no-tiles (footer_refusal d F footer) (body_refusal d (tiles_of d footer) (domain_bytes d footer) body) (tiles_of d footer) (fanout_of body) (levels_of body)
      _ _ refl refl

  held-accepted : 0 < held_tiles d F footer body → Accepted d (held_tiles d F footer body) (held_body d F footer body)
  held-accepted h =
      let z = held-opened h in
      rw (eq-eqb (open_answer d F footer body).number 0 z) (opened-accepted d F footer body z)

  -- asked once
  module _ {w : Window} {r : Answer} {before after : List ℕ} (p : Promises d (held_tiles d F footer body) (held_body d F footer body) w r before after) where
    over : r.number ≡ 0 → Accepted d (held_tiles d F footer body) (held_body d F footer body)
    over z =
        let n = held_tiles d F footer body in
        let b = held_body d F footer body in
        held-accepted (passed-all d n b w (answer-clear d n b w (ap (λ (x : Answer). x.number) (sym p.answer) ∙ z))).sizes.some

    pub without-premise : OpenedPromises d F footer body w r before after
    without-premise = record {
      answer = p.answer;
      buffer = p.buffer;
      listing = λ z. p.listing (over z) z;
      count = λ z. p.count (over z) z;
      bound = p.bound;
    }
