-- What holds before any byte has come: the footer's refusal stands for good (`starts-footer`), and so does that of a
-- stated length under 8 (`starts-short`); otherwise nothing is held yet (`starts-blank`).
-- Assumes nothing.
use mathlib.Core.Path.{◌≡◌, refl, ap, sym, ◌∙◌}
use mathlib.Core.List.{List}
use Prim.Native.Nat.{ℕ, ◌+◌, ◌-◌, ◌≤◌, ◌<◌}
use native.Mathlib.Omega.{arith}
use lib.ListN.{length, take, drop, length-take, length-drop}
use borrow.Author.Tests.{lt-ltb}
use Rattle.answers.specs.Refusals as refusals
use Rattle.answers.specs.Checks.{first}
use Rattle.description.specs.declared.Description.{Description}
use Rattle.description.specs.Description.{bytes_of_box}
use Rattle.footer.specs.declared.Checked.{Checked}
use Rattle.footer.specs.Fields.{domain_bytes}
use Rattle.footer.specs.Checks.{footer_refusal}
use Rattle.footer.specs.Answer.{checked_answer, refused_checked}
use Rattle.footer.proofs.Passed.{checked-number, checked_refused, Ready, ready}
use Rattle.parts_state.specs.Parts.{front_shown, shown_refusal}
use Rattle.parts_state.specs.Code.State.{begun, Holds}
use Rattle.parts_state.proofs.Shown.{shown, say-footer, say-shown}

module _ (d : Description) (F : ℕ) (footer : List ℕ) (stated : ℕ) {c : Checked} (e : c ≡ checked_answer d F footer) (body work : List ℕ) where
  pub starts-footer : (domain : List ℕ) → (c.number ≡ 0 → ⊥)
      → Holds d F footer stated body work (begun d c.number c.place 0 0 domain stated) 0
  unfolding refused_checked
  starts-footer domain h =
      let same = ap (λ (x : Checked). x.number) e ∙ checked-number d F footer in
      let some : (footer_refusal d F footer).number ≡ 0 → ⊥ = λ z. h (same ∙ z) in
      record {
        decided = λ _. say-footer d F footer stated (length work) body some ∙ rw (e ∙ checked_refused d F footer some);
        going = λ z. absurd (h z);
      }

  module _ (z : c.number ≡ 0) where
    has : Ready d F footer c
    has = ready d F footer c e z

    pub starts-short : (domain : List ℕ) → stated < 8
        → Holds d F footer stated body work (begun d refusals.bytes stated 1 0 domain stated) 0
    unfolding shown_refusal front_shown first
    starts-short domain short =
        let said : shown d F footer stated (length work) body ≡ refusals.refusal refusals.bytes stated = rw (lt-ltb stated 8 short) in
        record {
          decided = λ _. say-shown d F footer stated (length work) body has.not-refused (rw said (λ q. omega arith)) ∙ rw said;
          going = λ q. absurd (omega arith);
        }

    module _ {b : ℕ} (own : b ≡ bytes_of_box d) where
      abbrev lent : List ℕ
      lent = take (c.domain + b - c.domain) (drop c.domain footer)

      lent_is : lent ≡ domain_bytes d footer
      lent_is =
          let size : c.domain + b - c.domain ≡ b = omega arith in
          rw (size, own) (sym has.domain-bytes)

      lent-size : length lent ≡ bytes_of_box d
      lent-size =
          let size : c.domain + b - c.domain ≡ b = omega arith in
          rw (size, length-take, length-drop, own) (omega (arith, has.domain-there))

      pub starts-blank : {domain : List ℕ} → take (length lent) domain ≡ lent → 8 ≤ stated
          → Holds d F footer stated body work (begun d 0 0 0 c.tiles domain stated) 0
      starts-blank {domain} q enough = record {
        decided = λ o. absurd (o refl);
        going = λ _. record {
          passed = has.not-refused;
          enough = enough;
          description = refl;
          tiles = has.tiles;
          said = refl;
          domain = kept-domain;
          here = refl;
          within = omega arith;
          there = omega arith;
          part = omega arith;
          held = refl;
          blank = λ _. record { counted = refl; done = refl; level = refl; index = refl; own = refl; parents = refl; count = refl };
          tree = λ l. absurd (omega arith);
        };
      }
        where
          kept-domain : take (bytes_of_box d) domain ≡ domain_bytes d footer
          kept-domain = rw lent-size at q ∙ lent_is
