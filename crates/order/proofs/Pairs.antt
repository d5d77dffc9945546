-- Two numbers one after the other: what they are where their bytes are all there, what they are where not, and how
-- large. Laws over the number of bytes.
-- Assumes nothing.
use mathlib.Core.Path.{◌≡◌, sym, ◌∙◌}
use mathlib.Core.Bool.{Bool, true, false, cond}
use mathlib.Core.List.{List}
use Prim.Native.Nat.{ℕ, ◌+◌, ◌%◌, ◌^◌, ◌≤◌, ◌<◌}
use native.Mathlib.Omega.{arith}
use lib.Dec.{leb}
use lib.ListN.{length, get_or}
use native.Mathlib.Nat.{one-le-pow, zero-mod}
use borrow.Author.Tests.{le-leb, lt-leb}
use mir.Syntax.{w8}
use mir.Val.{Fits}
use Rattle.order.specs.Little.{little, first_of_two, second_of_two}
use Rattle.order.proofs.Little.{little-lt}

-- both, as code answers them
abbrev pub Both : List ℕ → ℕ → ℕ → ℕ → ℕ → Type 0
Both s at m low high = (low ≡ first_of_two s at m) × (high ≡ second_of_two s at m)

pub there : (s : List ℕ) (at m : ℕ) {low high : ℕ} → at + (m + m) ≤ length s → low ≡ little s at m → high ≡ little s (at + m) m → Both s at m low high
unfolding first_of_two second_of_two
there s at m h p q = (p ∙ rw (le-leb (at + (m + m)) (length s) h), q ∙ rw (le-leb (at + (m + m)) (length s) h))

pub not_there : (s : List ℕ) (at m : ℕ) → length s < at + (m + m) → Both s at m 0 0
unfolding first_of_two second_of_two
not_there s at m h = (rw (lt-leb (at + (m + m)) (length s) h), rw (lt-leb (at + (m + m)) (length s) h))

-- by a test whether they are there
pub there_by : (s : List ℕ) (at m : ℕ) {low high : ℕ} {t : Bool} → t ≡ leb (at + (m + m)) (length s) → t ≡ true
    → low ≡ little s at m → high ≡ little s (at + m) m → Both s at m low high
unfolding first_of_two second_of_two
there_by s at m e h p q = (p ∙ rw (sym e ∙ h), q ∙ rw (sym e ∙ h))

pub not_there_by : (s : List ℕ) (at m : ℕ) {low high : ℕ} {t : Bool} → t ≡ leb (at + (m + m)) (length s) → t ≡ false
    → low ≡ 0 % 256 ^ m → high ≡ 0 % 256 ^ m → Both s at m low high
unfolding first_of_two second_of_two
not_there_by s at m e h p q = (p ∙ zero-mod (256 ^ m) ∙ rw (sym e ∙ h), q ∙ zero-mod (256 ^ m) ∙ rw (sym e ∙ h))

some : (k : ℕ) → 0 < 256 ^ k
some k = one-le-pow k 256 (omega arith)

module _ (s : List ℕ) (byte : (i : ℕ) → Fits w8 (get_or s i 0)) (at m : ℕ) where
  pub first-lt : first_of_two s at m < 256 ^ m
  unfolding first_of_two
  first-lt = go (leb (at + (m + m)) (length s))
    where
      go : (t : Bool) → cond t (little s at m) 0 < 256 ^ m
      go true = little-lt s byte at m
      go false = some m

  pub second_lt : second_of_two s at m < 256 ^ m
  unfolding second_of_two
  second_lt = go (leb (at + (m + m)) (length s))
    where
      go : (t : Bool) → cond t (little s (at + m) m) 0 < 256 ^ m
      go true = little-lt s byte (at + m) m
      go false = some m
