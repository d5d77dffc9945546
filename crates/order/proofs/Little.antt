-- What do the bytes of a part stand for, and how large is it? Laws of `little`, over the number of bytes. Assumes
-- nothing.
use mathlib.Core.Path.{◌≡◌, refl, ap, ◌∙◌}
use mathlib.Core.List.{List, [], ◌∷◌}
use Prim.Native.Nat.{ℕ, zero, suc, ◌+◌, ◌-◌, ◌*◌, ◌%◌, ◌^◌, ◌≤◌, ◌<◌}
use native.Mathlib.Nat.{mod-eq_of_lt, add_assoc, add-zero, zero-add, suc-add, mul-zero, mul_assoc, pow-succ'}
use native.Mathlib.Numerals.{one-add}
use native.Mathlib.Omega.{arith}
use lib.Dec.{lit<}
use lib.ListN.{length, get_or, take, drop, get_or-eq_default}
use lib.Seq.{get_or-take, get_or-drop}
use mir.Syntax.{w8, w32}
use mir.Val.{Fits}
use Rattle.order.specs.Little.{little}

-- ---- past the end
pub little-past : (s : List ℕ) (at m : ℕ) → length s ≤ at → little s at m ≡ 0
unfolding little
little-past s at zero h = refl
little-past s at (suc m) h = rw (get_or-eq_default s 0 h, little-past s (at + 1) m (omega arith))

-- ---- how large it is, where every byte is one
module _ (s : List ℕ) (byte : (i : ℕ) → Fits w8 (get_or s i 0)) where
  pub little-lt : (at m : ℕ) → little s at m < 256 ^ m
  unfolding little
  little-lt at zero = lit< tt
  little-lt at (suc m) = rw pow-succ' (omega (arith, (byte at).fits, little-lt (at + 1) m))

  pub four-fit : (at : ℕ) → Fits w32 (little s at 4)
  four-fit at = record { fits = little-lt at 4 }

-- ---- a part of the bytes
pub little-drop : (s : List ℕ) (a at m : ℕ) → little (drop a s) at m ≡ little s (a + at) m
unfolding little
little-drop s a at zero = refl
little-drop s a at (suc m) = rw (get_or-drop, little-drop s a (at + 1) m, add_assoc a at 1)

pub little-take : (s : List ℕ) (k at m : ℕ) → at + m ≤ k → little (take k s) at m ≡ little s at m
unfolding little
little-take s k at zero h = refl
little-take s k at (suc m) h =
    rw (get_or-take k s at 0 (omega arith), little-take s k (at + 1) m (omega arith))

pub little-part : (s : List ℕ) (a k at m : ℕ) → at + m ≤ k → little (take k (drop a s)) at m ≡ little s (a + at) m
little-part s a k at m h = little-take (drop a s) k at m h ∙ little-drop s a at m

-- ---- the bytes in two parts, j of them and then k
pub little-split : (s : List ℕ) (at j k : ℕ) → little s at (j + k) ≡ little s at j + 256 ^ j * little s (at + j) k
unfolding little
little-split s at zero k = rw (zero-add k, add-zero at) (omega arith)
little-split s at (suc j) k =
    rw (suc-add, little-split s (at + 1) j k, pow-succ', mul_assoc, add_assoc at 1 j, one-add j) (omega arith)

-- where only j bytes are left, more of them make no difference
pub little-ends : (s : List ℕ) (at j k : ℕ) → length s ≤ at + j → little s at (j + k) ≡ little s at j
little-ends s at j k h =
    rw (little-split s at j k, little-past s (at + j) k h, mul-zero) (add-zero (little s at j))

-- where fewer bytes than eight are left, the lowest of those are the number of fewer
pub little-lowest : (s : List ℕ) → ((i : ℕ) → Fits w8 (get_or s i 0)) → (at m : ℕ) → m ≤ 8 → length s ≤ at + m
    → little s at 8 % 256 ^ m ≡ little s at m
little-lowest s byte at m small h =
    let eight : m + (8 - m) ≡ 8 = omega arith in
    ap (λ (n : ℕ). n % 256 ^ m) (rw eight at (little-ends s at m (8 - m) h)) ∙ mod-eq_of_lt (little-lt s byte at m)

-- the first eight bytes, each by itself, stand for what as many of the whole do
pub little-eight : (s : List ℕ) (m : ℕ) → m ≤ 8
    → little (get_or s 0 0 ∷ get_or s 1 0 ∷ get_or s 2 0 ∷ get_or s 3 0 ∷ get_or s 4 0 ∷ get_or s 5 0 ∷ get_or s 6 0 ∷ get_or s 7 0 ∷ []) 0 m ≡ little s 0 m
unfolding little
little-eight s zero h = refl
little-eight s (suc zero) h = refl
little-eight s (suc (suc zero)) h = refl
little-eight s (suc (suc (suc zero))) h = refl
little-eight s (suc (suc (suc (suc zero)))) h = refl
little-eight s (suc (suc (suc (suc (suc zero))))) h = refl
little-eight s (suc (suc (suc (suc (suc (suc zero)))))) h = refl
little-eight s (suc (suc (suc (suc (suc (suc (suc zero))))))) h = refl
little-eight s (suc (suc (suc (suc (suc (suc (suc (suc zero)))))))) h = refl
little-eight s (suc (suc (suc (suc (suc (suc (suc (suc (suc m))))))))) h = omega arith
