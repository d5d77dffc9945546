-- From the loops to the answer: the marks are those of the run, so what was scanned is the plan; and a refusal leaves
-- everything 0 and the output run as it was.
-- Assumes nothing.
use Rattle.std.proofs.Common.{◌≡◌, ℕ, ◌+◌, ◌-◌, ◌/◌, ◌<◌, ◌≤◌, Result, Ok, Err, Bool, true, false, cond, eqb, ltb, leb, List, [], length, sym, refl, ap, ◌∙◌, arith, ltb-false, eq-eqb, ne_eqb}
use mathlib.Core.Bool.{false≢true}
use Rattle.answers.specs.Refusals.{refusal, none, work}
use Rattle.std.specs.Prelude.{IsErrAnd}
use Rattle.answers.specs.declared.Refusal.{Refusal}
use Rattle.answers.specs.declared.Refused.{Refused}
use Rattle.answers.specs.Told.{said}
use Rattle.answers.proofs.Told.{refuses}
use Rattle.plan.specs.declared.Planned.{Planned}
use Rattle.plan.specs.declared.Progress.{Progress}
use Rattle.plan.specs.declared.Written.{Written}
use Rattle.plan.specs.Plan.{occurs, how_many, tile_bytes, plan_refusal, plan_after, told_plan, output_after}
use Rattle.plan.specs.Code.Marks.{marked}
use Rattle.plan.specs.Code.Progress.{Closed, Scanned}
use Rattle.plan.proofs.Laws.{same-planned, same-different}
use Rattle.plan.proofs.Marks.{in-or-out}
use Rattle.plan.proofs.Steps.{all-written}

-- ---- where nothing is refused the work buffer is long enough
pub room-enough : (list : Refusal) (n room : ℕ) → (plan_refusal list n room).number ≡ 0 → (n + 7) / 8 ≤ room
room-enough list n room = go (eqb list.number 0) refl (ltb room ((n + 7) / 8)) refl
  where
    go : (a : Bool) → eqb list.number 0 ≡ a → (b : Bool) → ltb room ((n + 7) / 8) ≡ b
        → (cond a (cond b (refusal work 0) none) list).number ≡ 0 → (n + 7) / 8 ≤ room
    go true e true f z = absurd (omega (arith, z))
    go true e false f z = ltb-false _ _ f
    go false e b f z = absurd (false≢true (sym e ∙ eq-eqb list.number 0 z))

module _ (list : Refusal) (n S : ℕ) (s : List ℕ) (g : ℕ) (run : List ℕ) (room : ℕ) (out : List ℕ)
    (r : Refusal) (is : r ≡ plan_refusal list n room) where
  pub refused-plan : (r.number ≡ 0 → ⊥)
      → (record { number = r.number; place = r.place; ranges = 0; tiles = 0; outside = 0; bytes = 0 } ≡ plan_after list n S s g run room)
      × (out ≡ output_after list n S s g run room out)
  refused-plan h =
      let not : eqb (plan_refusal list n room).number 0 ≡ false
      = ne_eqb (plan_refusal list n room).number 0 (λ z. h (ap (λ (x : Refusal). x.number) is ∙ z)) in
      (rw (is, not), rw not)

  module _ (accepted : r.number ≡ 0) (marks : List ℕ) (alone : (i : ℕ) → i < n → marked marks i ≡ occurs run i)
      (inside : ℕ) (entries : inside ≡ how_many (λ x. ltb x n) run) where
    pub scanned-plan : (p : Progress) (w : Written) (out₁ out₂ : List ℕ)
        → Scanned g (marked marks) (tile_bytes n S s) n out p out₁ → Closed p out₁ w out₂
        → (record {
          number = r.number;
          place = r.place;
          ranges = w.ranges;
          tiles = p.tiles;
          outside = length run - inside;
          bytes = w.bytes;
        } ≡ plan_after list n S s g run room) × (out₂ ≡ output_after list n S s g run room out)
    scanned-plan p w out₁ out₂ scanned closed =
        let yes : eqb (plan_refusal list n room).number 0 ≡ true
        = eq-eqb (plan_refusal list n room).number 0 (sym (ap (λ (x : Refusal). x.number) is) ∙ accepted) in
        let same = same-planned g (marked marks) (occurs run) (tile_bytes n S s) n alone in
        let all = all-written (closed.left out _ [] scanned.left) in
        let outside : length run - inside ≡ how_many (λ x. leb n x) run = omega (arith, in-or-out n run, entries) in
        let tiles = scanned.tiles ∙ same-different n (marked marks) (occurs run) alone in
        (rw (is, yes, all.0, all.1, tiles, outside, same), rw yes (all.2 ∙ rw same))

module _ (list : Refusal) (n S : ℕ) (s : List ℕ) (g : ℕ) (run : List ℕ) (room : ℕ) (out : List ℕ) where
  -- what the exit of a `?` tells
  pub refused-told : (r : Result Planned Refused) (e : Refused) → IsErrAnd r (λ y. y ≡ e) → said e ≡ plan_refusal list n room
      → (told_plan r ≡ plan_after list n S s g run room) × (out ≡ output_after list n S s g run room out)
  unfolding told_plan
  refused-told (Ok p) e h is = absurd h
  refused-told (Err y) e h is = refused-plan list n S s g run room out (said y) (rw h is) (refuses y)
