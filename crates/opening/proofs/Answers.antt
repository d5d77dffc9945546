-- Which of the three answers of opening is it, whatever the rules? The footer's refusal (`said-first`), the body's with the footer's n and
-- domain (`said-second`), or the numbers of an accepted tree (`said-opened`). The domain's box is lent as that part of
-- the footer where the footer's check places it.
-- Assumes nothing.
use mathlib.Core.Path.{◌≡◌, ap, ◌∙◌}
use mathlib.Core.List.{List}
use Prim.Native.Nat.{ℕ, ◌+◌, ◌-◌}
use native.Mathlib.Omega.{arith}
use lib.ListN.{take, drop}
use borrow.Author.Tests.{eq-eqb, ne_eqb}
use Rattle.answers.specs.Refusals.{refusal}
use Rattle.answers.specs.declared.Refusal.{Refusal}
use Rattle.description.specs.declared.Description.{Description}
use Rattle.description.specs.Description.{bytes_of_box}
use Rattle.footer.specs.declared.Checked.{Checked}
use Rattle.footer.specs.Fields.{tiles_of, domain_bytes}
use Rattle.description.specs.Rules.{Rules}
use Rattle.footer.specs.Checks.{sparse_by, footer_refusal_by}
use Rattle.footer.specs.Answer.{checked_answer_by, refused_checked}
use Rattle.footer.proofs.Passed.{number_by, refused-by, ReadyBy, ready_by}
use Rattle.rtree.specs.Body.{fanout_of, levels_of}
use Rattle.rtree.specs.Opening.{body_refusal, refused_in, open_answer_by}

module _ (rules : Rules) (d : Description) (F : ℕ) (footer body : List ℕ) {c : Checked} (e : c ≡ checked_answer_by rules d F footer) where
  pub said-first : (c.number ≡ 0 → ⊥) → refused_in 0 (refusal c.number c.place) ≡ open_answer_by rules d F footer body
  unfolding open_answer_by refused_checked
  said-first h =
      let same = ap (λ (x : Checked). x.number) e ∙ number_by (sparse_by rules d) d F footer in
      let some : (footer_refusal_by rules d F footer).number ≡ 0 → ⊥ = λ z. h (same ∙ z) in
      rw (e ∙ refused-by (sparse_by rules d) d F footer some, ne_eqb _ 0 some)

  module _ (z : c.number ≡ 0) where
    -- what the small answer of an accepted footer has
    pub passed : ReadyBy (sparse_by rules d) d F footer c
    passed = ready_by (sparse_by rules d) d F footer c e z

    abbrev body_says : Refusal
    body_says = body_refusal d (tiles_of d footer) (domain_bytes d footer) body

    module _ {b : ℕ} (own : b ≡ bytes_of_box d) {told : Refusal}
        (h : told ≡ body_refusal d c.tiles (take (c.domain + b - c.domain) (drop c.domain footer)) body) where
      said-body : told ≡ body_says
      said-body =
          let size : c.domain + b - c.domain ≡ b = omega arith in
          h ∙ rw (size, own, ← passed.domain-bytes, passed.tiles)

      pub said-second : (told.number ≡ 0 → ⊥)
          → refused_in 1 (refusal told.number told.place) ≡ open_answer_by rules d F footer body
      unfolding open_answer_by
      said-second some =
          rw (said-body, eq-eqb _ 0 passed.not-refused, ne_eqb body_says.number 0 (rw said-body at some))

      pub said-opened : told.number ≡ 0 → {f l : ℕ} → f ≡ fanout_of body → l ≡ levels_of body
          → record { number = 0; place = 0; which = 0; tiles = c.tiles; fanout = f; levels = l }
          ≡ open_answer_by rules d F footer body
      unfolding open_answer_by
      said-opened none p q =
          rw (p, q, passed.tiles, eq-eqb _ 0 passed.not-refused, eq-eqb body_says.number 0 (rw said-body at none))
