-- What does a buffer hold while a number is written into it from its last digit to its first? The last digit may be stored ahead
-- of the others, so that storing it leaves the digits of the tenth to be written. Assumes nothing.
use mathlib.Core.Path.{◌≡◌, sym, ◌∙◌}
use mathlib.Core.List.{List, [], ◌∷◌, ◌++◌}
use Prim.Native.Nat.{ℕ, suc, ◌+◌, ◌/◌, ◌%◌, ◌≤◌, ◌<◌}
use native.Mathlib.Nat.{add-zero, add-suc, suc-add}
use native.Mathlib.Omega.{arith}
use lib.ListN.{length, set}
use lib.Seq.{sets, set_comm}
use borrow.Author.Tests.{le-leb, lt-leb}
use Rattle.decimal.specs.Decimal.{decimal, zero_byte}
use Rattle.decimal.specs.Write.{put}
use Rattle.decimal.proofs.Written.{decimal-small, decimal-more, length-small, length_more}

sets-snoc : (l : List ℕ) (i : ℕ) (xs : List ℕ) (d : ℕ) → sets l i (xs ++ (d ∷ [])) ≡ sets (set l (i + length xs) d) i xs
sets-snoc l i [] d = rw add-zero
sets-snoc l i (x ∷ xs) d =
    sets-snoc (set l i x) (suc i) xs d
    ∙ rw (suc-add i (length xs), add-suc i (length xs), set_comm l i (suc (i + length xs)) x d (λ e. omega arith))

module _ (l : List ℕ) (at rest last : ℕ) where
  pub write-one :
      10 ≤ rest → last + 1 ≡ at + length (decimal rest)
      → sets (set l last (zero_byte + rest % 10)) at (decimal (rest / 10)) ≡ sets l at (decimal rest)
  write-one h e =
      let p : last ≡ at + length (decimal (rest / 10)) = omega (arith, length_more rest h) in
      rw (decimal-more rest h, p) (sym (sets-snoc l at (decimal (rest / 10)) (zero_byte + rest % 10)))

  pub write-last : rest < 10 → last + 1 ≡ at + length (decimal rest) → set l last (zero_byte + rest) ≡ sets l at (decimal rest)
  write-last h e =
      let p : last ≡ at = omega (arith, length-small rest h) in
      rw (decimal-small rest h, p)

module _ (buffer : List ℕ) (at : ℕ) (t : List ℕ) where
  pub put-fits : at + length t ≤ length buffer → sets buffer at t ≡ put buffer at t
  unfolding put
  put-fits h = rw (le-leb (at + length t) (length buffer) h)

  pub put-short : length buffer < at + length t → buffer ≡ put buffer at t
  unfolding put
  put-short h = rw (lt-leb (at + length t) (length buffer) h)
