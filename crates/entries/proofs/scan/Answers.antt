-- `entries::scan` meets its contract, with the invariant of Invariants.antt. Assumes nothing.
use Rattle.std.proofs.Common.{◌≡◌, ℕ, ◌+◌, ◌-◌, ◌*◌, ◌<◌, ◌≤◌, Bool, true, false, cond, List, Option, Some, None, Ok, Err, refl, sym, ap, ◌∙◌, arith}
use Rattle.answers.specs.Told.{number_of, refused, said}
use Rattle.answers.specs.declared.Reason.{Reason}
use Rattle.answers.proofs.Runs.{over-start}
use Rattle.answers.proofs.Checks.{none_left, past-left, stop-left}
use Rattle.answers.proofs.Told.{refuses}
use Rattle.order.specs.Little.{little}
use Rattle.lists.specs.Lists.{entry}
use Rattle.entries.specs.Code.Rules.{Stepped, Says, checked, entries_each}
use Rattle.entries.proofs.scan.Invariants.{Reached}
use Rattle.entries.proofs.scan.Goals as goal

-- ---- what the rule answered of one entry
stepped : (b : Bool) (c v : ℕ) → cond b None (Some c) ≡ Some v → (b ≡ false) × (v ≡ c)
stepped true c v e = grind arith
stepped false c v e = grind arith

stopped : (b : Bool) (c : ℕ) → cond {A = Option ℕ} b None (Some c) ≡ None → b ≡ true
stopped true c e = refl
stopped false c e = grind arith

module _ {breaks : (ℕ → ℕ) → ℕ → Bool} {comes : (ℕ → ℕ) → ℕ → ℕ} {reason : Reason} {s : List ℕ} {n at now : ℕ}
    (r : Reached breaks comes reason s n at now) where
  all-kept : 8 + 8 * n ≤ at → Says (entries_each (breaks (entry s)) (number_of reason) n) (comes (entry s) n) (Ok now)
  all-kept done =
      let e : r.i ≡ n = omega (arith, r.within, r.starts) in
      (r.decides ∙ none_left _ r.i (n - r.i) (omega arith), r.carries ∙ rw e)

  module _ (some : at < 8 + 8 * n) {x : ℕ} (read : x ≡ little s at 8) {o : Option ℕ} (says : Stepped breaks comes at now x o) where
    here : o ≡ cond (breaks (entry s) r.i) None (Some (comes (entry s) (r.i + 1)))
    here = says (entry s) r.i r.starts r.carries (read ∙ ap (λ (k : ℕ). little s k 8) r.starts)

    kept : (v : ℕ) → o ≡ Some v
        → Reached breaks comes reason s n (at + 8) v
    kept v e =
        let one = stepped (breaks (entry s) r.i) _ v (sym here ∙ e) in
        record {
          i = r.i + 1;
          within = omega (arith, r.within, r.starts);
          starts = omega (arith, r.starts);
          carries = one.1;
          decides = r.decides ∙ past-left _ r.i n _ (omega (arith, r.within, r.starts)) refl (rw one.0);
        }

    broken : o ≡ None → Says (entries_each (breaks (entry s)) (number_of reason) n) (comes (entry s) n) (Err (refused reason at))
    broken e =
        let one : breaks (entry s) r.i ≡ true = stopped (breaks (entry s) r.i) _ (sym here ∙ e) in
        let it : checked (breaks (entry s)) (number_of reason) r.i ≡ said (refused reason at)
        = rw (one, r.starts) in
        sym (r.decides ∙ stop-left _ r.i n _ (omega (arith, r.within, r.starts)) (sym it) (refuses (refused reason at)))

pub loop-at-init : goal.loop-at-init
loop-at-init g c = record {
  i = 0;
  within = omega arith;
  starts = refl;
  carries = sym (g.met.R.Rule.begins _ _);
  decides = over-start _ _ _ _;
}

pub loop-at-preserved : goal.loop-at-preserved
loop-at-preserved g c = kept c.loop-at.invariant c.if-end-at.false c.word-x.ensures c.next.ensures _ c.in-Some.is

pub returns-then-end-at : goal.returns-then-end-at
returns-then-end-at g c = all-kept c.loop-at.invariant c.if-end-at.true

pub returns-in-None : goal.returns-in-None
returns-in-None g c =
    rw (c.at.ensures, c.REASON.ensures) (broken c.loop-at.invariant c.if-end-at.false c.word-x.ensures c.next.ensures c.in-None.is)
