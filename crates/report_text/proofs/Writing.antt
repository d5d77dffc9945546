-- Pieces one after the other, and the lines of tiles.
-- Assumes nothing.
use mathlib.Core.Path.{◌≡◌, refl, ◌∙◌}
use mathlib.Core.List.{List, [], ◌++◌, append_assoc, append-nil}
use Prim.Native.Nat.{ℕ, ◌+◌, ◌≤◌}
use native.Mathlib.Omega.{arith}
use native.Mathlib.Nat.{zero-add}
use native.Mathlib.Numerals.{add-one}
use lib.ListN.{get_or}
use Rattle.answers.specs.Runs.{over}
use Rattle.answers.proofs.Runs.{over-snoc}
use Rattle.text.proofs.Writing.{wrote-append, wrote_nothing}
use Rattle.report_text.specs.declared.Writer.{Writer}
use Rattle.report_text.specs.Text.{tile_text, tiles_text}
use Rattle.report_text.specs.Code.Writing.{Puts}

module _ (n last c S : ℕ) (offsets tiles : List ℕ) where
  pub tiles-none : tiles_text n last c S offsets tiles 0 ≡ []
  unfolding over
  tiles-none = refl

  pub tiles_more : (i : ℕ) → tiles_text n last c S offsets tiles (i + 1) ≡ tiles_text n last c S offsets tiles i ++ tile_text n last c S offsets (get_or tiles i 0)
  tiles_more i =
      let g : ℕ → List ℕ = λ k. tile_text n last c S offsets (get_or tiles k 0) in
      rw (add-one i) (over-snoc ◌++◌ [] append_assoc (λ a. refl) append-nil g 0 i ∙ rw (zero-add i))

-- nothing
pub puts-nothing : (w : Writer) → Puts [] 0 w w
puts-nothing w = record { from = refl; wrote = wrote_nothing _ _ _; bound = omega arith }

-- one after the other
pub puts-append : {xs ys : List ℕ} {m n : ℕ} {a b c : Writer} → Puts xs m a b → Puts ys n b c → Puts (xs ++ ys) (m + n) a c
puts-append p q = record {
  from = q.from ∙ p.from;
  wrote = wrote-append p.wrote (rw p.from at q.wrote);
  bound = omega (arith, p.bound, q.bound);
}

-- within more
pub puts-within : {t : List ℕ} {m n : ℕ} {a b : Writer} → m ≤ n → Puts t m a b → Puts t n a b
puts-within l p = record { from = p.from; wrote = p.wrote; bound = omega (arith, p.bound) }
