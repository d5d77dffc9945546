-- `parts::take` meets its contract: a state that the last call left is in range, and each step takes some of the bytes.
-- Assumes nothing.
use mathlib.Core.Path.{◌≡◌, refl, sym, ◌∙◌}
use mathlib.Core.Bool.{Bool, true, false}
use mathlib.Core.List.{List}
use Prim.Native.Nat.{ℕ, ◌+◌, ◌≤◌}
use native.Mathlib.Omega.{arith}
use lib.ListN.{length, length-drop}
use borrow.Author.Tests.{eqb-true}
use Rattle.description.specs.declared.Description.{Description}
use Rattle.parts_state.specs.Code.State.{Holds}
use Rattle.parts.specs.Code.Cursor.{with_cursor}
use Rattle.parts.specs.Code.Steps.{SameRoom, Reads, Part}
use Rattle.parts.proofs.Lists.{read-rest}
use Rattle.parts.proofs.Front.{in-range}
use Rattle.parts.proofs.Prefix.{rest-is}
use Rattle.parts.proofs.take.Goals.{After-step-c}
use Rattle.parts.proofs.take.Goals as goal

pub loop-rest-init : goal.loop-rest-init
loop-rest-init c = (c.requires.number_value, record { to-hold = refl; to-work = refl }, (λ d F footer stated body p h r fits. (p, h, r, refl)))

never : {t : Bool} → t ≡ true → t ≡ false → ⊥
never e f = let z : ◌≡◌ {A = ℕ} 0 1 = cc in omega arith

pub returns-then-not-in_range : goal.returns-then-not-in_range
returns-then-not-in_range c =
    let i = c.loop-rest.invariant in (
      i.1,
      λ d F footer stated body p h r fits.
          let t = i.2 d F footer stated body p h r fits in
          let g = t.1.going i.0 in
          let ranged = rw (← g.description, ← c.box_bytes-box_bytes.ensures) at (in-range g (length c.loop-rest.rest.now) (omega (arith, fits, t.3))) in
          absurd (never (c.in_range.ensures.1 ranged) c.if-not-in_range.true),
    )

-- held bytes and work buffer keep their lengths
rooms : (c : After-step-c) → (let x = c.args in
    SameRoom x.held.now x.work.now c.step-c.new.held c.step-c.new.work)
rooms c =
    let i = c.loop-rest.invariant in
    record { to-hold = c.step-c.ensures.0.to-hold ∙ i.1.to-hold; to-work = c.step-c.ensures.0.to-work ∙ i.1.to-work }

-- some of them are taken
some : (c : After-step-c) → (let l = c.loop-rest in let x = c.args in
    (d : Description) (F : ℕ) (footer : List ℕ) (stated : ℕ) (body : List ℕ) (q : ℕ)
    → Holds d F footer stated body l.work (with_cursor x.parts l.held l.c) q → Reads body q l.rest.now
    → q + length l.rest.now ≤ stated
    → Part d F footer stated body c.step-c.new.work (with_cursor x.parts c.step-c.new.held c.step-c.result) q (length l.rest.now))
some c = c.step-c.ensures.1

pub returns-then-c-ne0 : goal.returns-then-c-ne0
returns-then-c-ne0 c = (
  rooms (goal.at.returns-then-c-ne0 c).After-step-c,
  λ d F footer stated body p h r fits.
      let t = c.loop-rest.invariant.2 d F footer stated body p h r fits in
      let s = some (goal.at.returns-then-c-ne0 c).After-step-c d F footer stated body t.0 t.1 t.2 (omega (arith, fits, t.3)) in
      record { decided = s.holds.decided; going = λ z. absurd (c.if-c-ne0.true z) },
)

pub loop-rest-preserved : goal.loop-rest-preserved
loop-rest-preserved c = (
  c.if-c-ne0.false,
  rooms (goal.at.loop-rest-preserved c).After-step-c,
  λ d F footer stated body p h r fits.
      let i = c.loop-rest.invariant in
      let t = i.2 d F footer stated body p h r fits in
      let s = some (goal.at.loop-rest-preserved c).After-step-c d F footer stated body t.0 t.1 t.2 (omega (arith, fits, t.3)) in
      let g = t.1.going i.0 in
      let g' = s.holds.going c.if-c-ne0.false in
      let m = c.saturating_sub-taken.result in
      let rest = c.loop-rest.rest.now in
      let is : m ≡ s.taken =
      omega (arith, c.room_left-before.ensures, c.room_left.ensures, c.saturating_sub-taken.ensures, g.here, g.said, g'.here, g'.said, g'.within) in
      let few : m ≤ length rest = omega (arith, is, s.few) in
      (t.0 + m, rw is s.holds, rw (rest-is rest m) (read-rest body t.0 rest t.2 m few), rw (rest-is rest m, length-drop m rest) (omega (arith, t.3, few))),
)

pub returns : goal.returns
returns c =
    let i = c.loop-rest.invariant in (
      i.1,
      λ d F footer stated body p h r fits.
          let t = i.2 d F footer stated body p h r fits in
          let empty : length c.loop-rest.rest.now ≡ 0 = eqb-true _ 0 (sym c.loop-rest-test.ensures) in
          let all : t.0 ≡ p + length c.args.bytes.now = omega (arith, t.3, empty) in
          rw all at t.1,
    )
