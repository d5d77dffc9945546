-- What becomes of a pattern that is read as a float, where the float's bits are asked for again? And how is a NaN told
-- and made? Laws over the format. Assumes nothing.
use mathlib.Core.Path.{◌≡◌, refl, sym, ap, ◌∙◌, subst}
use Prim.Native.Nat.{ℕ, ◌+◌, ◌*◌, ◌/◌, ◌%◌, ◌≤◌, ◌<◌}
use mathlib.Core.Bool.{Bool, true, false, not, ◌&&◌, true≢false}
use lib.Dec.{T, eqb, ltb, ltb→lt, lt→ltb}
use native.Mathlib.Decide.{dec_le}
use native.Mathlib.Omega.{arith}
use lib.Ieee.{Float, nan, inf, fin, Format, binary32, binary64, up, down, ne, eq, hid, ones, top, of_bits, to_bits, nan_bits, is_nan, fits}
use lib.Ieee.Bits.{nan_bits_above, nan_bits_is, of_bits-to_bits, of_bits-fits, to_bits-of_bits}
use mir.Val.{Fits, width_of}
use mir.ValLaws.{top-pow}
use denote.Floats.{passes}
use borrow.Author.Tests.{eq-eqb, ne_eqb, lt-ltb, le-ltb}
use Rattle.order.specs.Key.{infinite}
use Rattle.order.proofs.Tests.{same_test}

-- ---- read, and the bits again
pub read_again : (f : Format) (p : ℕ) → of_bits f (to_bits f (of_bits f p)) ≡ of_bits f p
read_again f p = of_bits-to_bits f (of_bits f p) (of_bits-fits f p)

pub nan-read : (f : Format) (p : ℕ) → nan_bits f (to_bits f (of_bits f p)) ≡ nan_bits f p
nan-read f p = nan_bits_is f (to_bits f (of_bits f p)) ∙ ap is_nan (read_again f p) ∙ sym (nan_bits_is f p)

pub bits-read : (f : Format) (p : ℕ) → Fits (width_of f) p → nan_bits f p ≡ false → to_bits f (of_bits f p) ≡ p
bits-read f p h n =
    to_bits-of_bits f p (subst (λ (k : ℕ). p < k) (sym (top-pow f)) h.fits)
    (subst (λ (b : Bool). T (not b)) (sym n ∙ nan_bits_is f p) tt)

-- ---- a NaN, told by its magnitude, which is above the infinity's, or by the value, which differs from itself
pub nan-doubled : (f : Format) (p : ℕ) → ltb (2 * (ones f * hid f)) (2 * (p % top f)) ≡ nan_bits f p
nan-doubled f p =
    let i = ones f * hid f in
    let m = p % top f in
    same_test (ltb (2 * i) (2 * m)) (ltb i m)
    (λ t. lt→ltb i m (omega (arith, ltb→lt (2 * i) (2 * m) t)))
    (λ t. lt→ltb (2 * i) (2 * m) (omega (arith, ltb→lt i m t)))
    ∙ sym (nan_bits_above f p)

-- ---- a finite pattern, whose magnitude is below the infinity's
pub finite-doubled : (f : Format) (p : ℕ)
    → ltb (2 * (p % top f)) (2 * (ones f * hid f)) ≡ (not (nan_bits f p) && not (infinite f p))
unfolding infinite
finite-doubled f p = rw (nan_bits_above f p) (go (ones f * hid f) (p % top f))
  where
    go : (i m : ℕ) → ltb (2 * m) (2 * i) ≡ (not (ltb i m) && not (eqb m i))
    go i m = at (dec_le i m) (dec_le m i)
      where
        at : Dec (i ≤ m) → Dec (m ≤ i) → ltb (2 * m) (2 * i) ≡ (not (ltb i m) && not (eqb m i))
        at (no h) k = rw (lt-ltb (2 * m) (2 * i) (omega arith), le-ltb i m (omega arith), ne_eqb m i (λ e. omega arith))
        at (yes h) (yes k) = rw (le-ltb (2 * m) (2 * i) (omega arith), le-ltb i m (omega arith), eq-eqb m i (omega arith))
        at (yes h) (no k) = rw (le-ltb (2 * m) (2 * i) (omega arith), lt-ltb i m (omega arith))

pub finite-parts : {t : Bool} (f : Format) (p : ℕ) → t ≡ (not (nan_bits f p) && not (infinite f p)) → t ≡ true
    → (nan_bits f p ≡ false) × (infinite f p ≡ false)
finite-parts f p e h = go (nan_bits f p) (infinite f p) (sym e ∙ h)
  where
    go : (a b : Bool) → (not a && not b) ≡ true → (a ≡ false) × (b ≡ false)
    go false false z = (refl, refl)
    go false true z = absurd (true≢false (sym z))
    go true b z = absurd (true≢false (sym z))

pub no_nan : (f : Format) (p : ℕ) → nan_bits f p ≡ false → T (not (nan_bits f p))
no_nan f p h = subst (λ (b : Bool). T (not b)) (sym h) tt

pub is-nan : (x : Float) → is_nan x ≡ true → nan ≡ x
unfolding is_nan
is-nan nan h = refl
is-nan (inf s) h = absurd (true≢false (sym h))
is-nan (fin s m e) h = absurd (true≢false (sym h))

-- the quiet one, with no sign, by its pattern
abbrev quiet : Format → ℕ
quiet binary32 = 0x7fc0_0000
quiet binary64 = 0x7ff8_0000_0000_0000

quiet-is : (f : Format) → of_bits f (quiet f) ≡ nan
unfolding of_bits
quiet-is binary32 = refl
quiet-is binary64 = refl

pub made-nan : (f : Format) (p : ℕ) → nan_bits f p ≡ true → of_bits f (quiet f) ≡ of_bits f p
made-nan f p h = quiet-is f ∙ is-nan (of_bits f p) (sym (nan_bits_is f p) ∙ h)

ne-itself : (x : Float) → ne x x ≡ is_nan x
unfolding ne eq is_nan
ne-itself nan = refl
ne-itself (inf true) = refl
ne-itself (inf false) = refl
ne-itself (fin true m e) = simp (eq-eqb (m * up e * down e) (m * up e * down e) refl)
ne-itself (fin false m e) = simp (eq-eqb (m * up e * down e) (m * up e * down e) refl)

nan-told : (f : Format) (x : Float) → fits f x ≡ true → nan_bits f (to_bits f x) ≡ is_nan x
nan-told f x h = nan_bits_is f (to_bits f x) ∙ ap is_nan (of_bits-to_bits f x (passes (fits f x) h))

pub ne-of-floats : (f : Format) (x : Float) → fits f x ≡ true → ne x x ≡ nan_bits f (to_bits f x)
ne-of-floats f x h = ne-itself x ∙ sym (nan-told f x h)

-- a value's pattern is taken where there is no NaN, whose pattern is the quiet one
pub some-value : (f : Format) (x : Float) → fits f x ≡ true → nan_bits f (to_bits f x) ≡ false → T (not (is_nan x))
some-value f x h n = subst (λ (b : Bool). T (not b)) (sym n ∙ nan-told f x h) tt

pub nan-bits : (f : Format) (x : Float) → fits f x ≡ true → nan_bits f (to_bits f x) ≡ true → ones f * hid f + hid f / 2 ≡ to_bits f x
unfolding to_bits
nan-bits f x h n = ap (to_bits f) (is-nan x (sym (nan-told f x h) ∙ n))
