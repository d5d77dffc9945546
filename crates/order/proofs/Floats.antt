-- In which order are two floats? In that of their patterns' keys: IEEE 754's `le`, as the logic defines it, is that of
-- the keys, in either format. A pattern that is no NaN's is read as an infinity or as a finite value, and in each of
-- the four cases of two patterns the comparison is that of a sign and a magnitude. Assumes nothing.
use mathlib.Core.Path.{◌≡◌, refl, sym, ap, ◌∙◌, subst}
use mathlib.Core.Logic.{◌⊎◌, inl, inr}
use Prim.Native.Nat.{ℕ, zero, suc, ◌+◌, ◌-◌, ◌*◌, ◌/◌, ◌%◌, ◌^◌, ◌≤◌, ◌<◌}
use native.Mathlib.Nat.{le_trans, le_of_eq, lt_irrefl, eq-or-lt_of_le, le_of_lt, mul_comm, mul_assoc, mul_right_comm, mul-le-mul_right, le_of_mul-le-mul_right, mul-pos, zero-mul, zero-lt-suc, div-lt_iff_lt-mul, mod-lt, mod-eq_of_lt, mod-eq-sub-mod, mod-mod_of_dvd, dvd-mul_right, mul-div_cancel, mul-mod_left}
use native.Mathlib.Omega.{arith}
use mathlib.Core.Bool.{Bool, true, false, not, ◌&&◌, cond, true≢false}
use lib.Dec.{T, leb, eqb, leb→le, le→leb, nltb→le, eqb→eq, not_T}
use lib.IntN.{ℤ}
use lib.Pow.{pow_pos}
use lib.Ieee.{Float, nan, inf, fin, Format, prec, emax, low, up, down, odd, lt, eq, le, hid, ones, top, of_fields, of_bits, to_bits, nan_bits, is_nan, fits}
use lib.Ieee.Bits.{nan_bits_above, nan_bits_is, of_bits-to_bits, is_true, is_false, cond_no}
use lib.Ieee.Exact.{HasValue, odd_sign}
use lib.Ieee.Fits.{down_pos}
use denote.Floats.{passes}
use borrow.Author.Tests.{eq-eqb, le-leb, lt-leb}
use Rattle.order.specs.Key.{float_key, float_at_most}
use Rattle.order.proofs.Tests.{same_test, no-and, clash}
use Rattle.order.proofs.Sides.{at_most, at_most-cong, either_is, about-middle}
use Rattle.order.proofs.Worth.{worth, size, size-leb, size-leb-zero}

-- ---- two finite values, by what they are worth over one denominator
scale : (a b v w c d : ℕ) → 0 < c → 0 < d → a * c ≡ v * d → b * c ≡ w * d → leb a b ≡ leb v w
scale a b v w c d C D p q =
    same_test (leb a b) (leb v w)
    (λ t. le→leb v w (le_of_mul-le-mul_right (le_trans (le_of_eq (sym p)) (le_trans (mul-le-mul_right c (leb→le a b t)) (le_of_eq q))) D))
    (λ t. le→leb a b (le_of_mul-le-mul_right (le_trans (le_of_eq p) (le_trans (mul-le-mul_right d (leb→le v w t)) (le_of_eq (sym q)))) C))

le-values : (x y : Float) (s t : Bool) (v w l : ℕ) → 0 < l → HasValue x s v l → HasValue y t w l → le x y ≡ at_most s v t w
unfolding le lt eq
le-values nan y s t v w l L p q = absurd p
le-values (inf s') y s t v w l L p q = absurd p
le-values (fin s' m e) nan s t v w l L p q = absurd q
le-values (fin s' m e) (inf t') s t v w l L p q = absurd q
le-values (fin s' m e) (fin t' n d) s t v w l L p q =
    let a = m * up e * down d in
    let b = n * up d * down e in
    let c = down e * down d in
    let C : 0 < c = mul-pos (down_pos e) (down_pos d) in
    let x : a * l ≡ v * c =
    mul_right_comm (m * up e) (down d) l ∙ ap (λ (z : ℕ). z * down d) p.1 ∙ mul_assoc v (down e) (down d) in
    let y : b * l ≡ w * c =
    mul_right_comm (n * up d) (down e) l
    ∙ ap (λ (z : ℕ). z * down e) q.1
    ∙ mul_assoc w (down d) (down e)
    ∙ ap (λ (z : ℕ). w * z) (mul_comm (down d) (down e)) in
    let z : 0 * l ≡ 0 * c = zero-mul l ∙ sym (zero-mul c) in
    either_is s' t' a b
    ∙ ap (λ (z : Bool). at_most z a t' b) p.0
    ∙ ap (λ (z : Bool). at_most s a z b) q.0
    ∙ at_most-cong s t a b v w (scale a b v w l c L C x y) (scale b a w v l c L C y x) (scale a 0 v 0 l c L C x z) (scale b 0 w 0 l c L C y z)

-- ---- what a pattern that is no NaN's is read as: an infinity, or a finite value worth `size` of its magnitude
ones_pos : (e : ℕ) → 0 ≡ 2 * e + 1 → ⊥
ones_pos e h = omega arith

at_ones : (f : Format) (s : Bool) (x t : ℕ) → x ≡ ones f → t ≡ 0 → of_fields f s x t ≡ inf s
unfolding of_fields
at_ones f s zero t e z = absurd (ones_pos (emax f) e)
at_ones f s (suc x) t e z = simp (eq-eqb (suc x) (ones f) e, eq-eqb t 0 z)

under_ones : (f : Format) (s : Bool) (x t : ℕ) → x < ones f → HasValue (of_fields f s x t) s (worth (hid f) x t) (2 ^ low f)
unfolding of_fields
under_ones f s zero t l = odd_sign (prec f) s t 0 (low f)
under_ones f s (suc x) t l =
    subst (λ (v : Float). HasValue v s ((hid f + t) * 2 ^ x) (2 ^ low f))
    (sym (cond_no (eqb (suc x) (ones f)) (cond (eqb t 0) (inf s) nan) (odd (prec f) s (hid f + t) x (low f)) (not_T (eqb (suc x) (ones f)) (λ k. apart (eqb→eq (suc x) (ones f) k)))))
    (odd_sign (prec f) s (hid f + t) x (low f))
  where
    apart : suc x ≡ ones f → ⊥
    apart e = lt_irrefl (ones f) (subst (λ (y : ℕ). y < ones f) e l)

-- the magnitude of an infinity
abbrev pub infinity : Format → ℕ
infinity f = ones f * hid f

unfoldable pub Read : Format → ℕ → Bool → Float → Type 0
Read f r s v =
    ((r ≡ infinity f) × (v ≡ inf s)) ⊎ ((r < infinity f) × HasValue v s (size (prec f - 1) r) (2 ^ low f))

pub reads : (f : Format) (p : ℕ) → nan_bits f p ≡ false → Read f (p % top f) (leb (top f) p) (of_bits f p)
unfolding of_bits Read
reads f p h =
    let r = p % top f in
    let s = leb (top f) p in
    let d : r % hid f ≡ p % hid f = mod-mod_of_dvd (hid f) p (dvd-mul_right (hid f) (suc (ones f))) in
    elim (eq-or-lt_of_le (nltb→le (infinity f) r (subst (λ (b : Bool). T (not b)) (sym h ∙ nan_bits_above f p) tt))) [
      | inl e ↦
          inl (
            e,
            at_ones f s (r / hid f) (p % hid f)
                (ap (λ (x : ℕ). x / hid f) e ∙ mul-div_cancel (ones f) (pow_pos (prec f - 1)))
                (sym d ∙ ap (λ (x : ℕ). x % hid f) e ∙ mul-mod_left (ones f) (hid f)),
          )
      | inr l ↦
          inr (
            l,
            subst (λ (t : ℕ). HasValue (of_fields f s (r / hid f) t) s (size (prec f - 1) r) (2 ^ low f)) d
                (under_ones f s (r / hid f) (r % hid f) ((div-lt_iff_lt-mul (pow_pos (prec f - 1))).1 l)),
          )
    ]

-- ---- the four cases of two patterns
inf-inf : (s t : Bool) (i : ℕ) → 0 < i → le (inf s) (inf t) ≡ at_most s i t i
unfolding le lt eq
inf-inf false false i p = sym (is_true (leb i i) (omega (arith, le→leb)))
inf-inf false true i p = no-and (leb i 0) (leb i 0) (λ x y. clash 0 i p x)
inf-inf true false i p = refl
inf-inf true true i p = sym (is_true (leb i i) (omega (arith, le→leb)))

inf-fin : (s t : Bool) (m : ℕ) (e : ℤ) (r i : ℕ) → r < i → le (inf s) (fin t m e) ≡ at_most s i t r
unfolding le lt eq
inf-fin false false m e r i l = sym (is_false (leb i r) (not_T (leb i r) (clash r i l)))
inf-fin false true m e r i l = no-and (leb i 0) (leb r 0) (λ x y. clash 0 i (omega arith) x)
inf-fin true false m e r i l = refl
inf-fin true true m e r i l = sym (is_true (leb r i) (omega (arith, le→leb)))

fin-inf : (s t : Bool) (m : ℕ) (e : ℤ) (r i : ℕ) → r < i → le (fin s m e) (inf t) ≡ at_most s r t i
unfolding le lt eq
fin-inf false false m e r i l = sym (is_true (leb r i) (omega (arith, le→leb)))
fin-inf false true m e r i l = no-and (leb r 0) (leb i 0) (λ x y. clash 0 i (omega arith) y)
fin-inf true false m e r i l = refl
fin-inf true true m e r i l = sym (is_false (leb i r) (not_T (leb i r) (clash r i l)))

-- a value with a fraction is finite, and has that sign
pub finite : (P : Float → Type 0) (v : Float) (s : Bool) (a c : ℕ) → HasValue v s a c → ((m : ℕ) (e : ℤ) → P (fin s m e)) → P v
finite P nan s a c h g = absurd h
finite P (inf t) s a c h g = absurd h
finite P (fin t m e) s a c h g = subst (λ (b : Bool). P (fin b m e)) (sym h.0) (g m e)

infinity-pos : (f : Format) → 0 < infinity f
infinity-pos f = mul-pos (plus_one (emax f)) (pow_pos (prec f - 1))
  where
    plus_one : (e : ℕ) → 0 < 2 * e + 1
    plus_one e = omega arith

le_read : (f : Format) (x y : Float) (s t : Bool) (q r : ℕ) → Read f q s x → Read f r t y → le x y ≡ at_most s q t r
unfolding Read
le_read f x y s t q r (inl h) (inl k) =
    (λ i. le (h.1 i) (k.1 i)) ∙ inf-inf s t (infinity f) (infinity-pos f) ∙ (λ i. at_most s (sym h.0 i) t (sym k.0 i))
le_read f x y s t q r (inl h) (inr k) =
    ap (λ (z : Float). le z y) h.1
    ∙ finite (λ (z : Float). le (inf s) z ≡ at_most s (infinity f) t r) y t (size (prec f - 1) r) (2 ^ low f) k.1 (λ m e. inf-fin s t m e r (infinity f) k.0)
    ∙ ap (λ (z : ℕ). at_most s z t r) (sym h.0)
le_read f x y s t q r (inr h) (inl k) =
    ap (λ (z : Float). le x z) k.1
    ∙ finite (λ (z : Float). le z (inf t) ≡ at_most s q t (infinity f)) x s (size (prec f - 1) q) (2 ^ low f) h.1 (λ m e. fin-inf s t m e q (infinity f) h.0)
    ∙ ap (λ (z : ℕ). at_most s q t z) (sym k.0)
le_read f x y s t q r (inr h) (inr k) =
    let p = prec f - 1 in
    le-values x y s t (size p q) (size p r) (2 ^ low f) (pow_pos (low f)) h.1 k.1
    ∙ at_most-cong s t (size p q) (size p r) q r (size-leb p q r) (size-leb p r q) (size-leb-zero p q) (size-leb-zero p r)

-- ---- the law, for two patterns that are no NaN's
top_pos : (f : Format) → 0 < top f
top_pos f = mul-pos (pow_pos (prec f - 1)) (zero-lt-suc (ones f))

pub le-by-key : (f : Format) (a b : ℕ) → nan_bits f a ≡ false → nan_bits f b ≡ false → le (of_bits f a) (of_bits f b) ≡ leb (float_key f a) (float_key f b)
unfolding float_key
le-by-key f a b h k =
    le_read f (of_bits f a) (of_bits f b) (leb (top f) a) (leb (top f) b) (a % top f) (b % top f) (reads f a h) (reads f b k)
    ∙ about-middle (top f) (leb (top f) a) (leb (top f) b) (a % top f) (b % top f) (le_of_lt (mod-lt a (top_pos f))) (le_of_lt (mod-lt b (top_pos f)))

-- ---- the same of any two patterns, and of any two values of the format: at a NaN `le` is false
nan_left : (x y : Float) → is_nan x ≡ true → le x y ≡ false
unfolding le lt eq is_nan
nan_left nan y h = refl
nan_left (inf s) y h = absurd (true≢false (sym h))
nan_left (fin s m e) y h = absurd (true≢false (sym h))

nan_right : (x y : Float) → is_nan y ≡ true → le x y ≡ false
unfolding le lt eq is_nan
nan_right nan nan h = refl
nan_right (inf s) nan h = refl
nan_right (fin s m e) nan h = refl
nan_right x (inf s) h = absurd (true≢false (sym h))
nan_right x (fin s m e) h = absurd (true≢false (sym h))

by_tests : (p q l k : Bool) → (p ≡ true → l ≡ false) → (q ≡ true → l ≡ false) → (p ≡ false → q ≡ false → l ≡ k) → l ≡ (not p && (not q && k))
by_tests true q l k x y z = x refl
by_tests false true l k x y z = y refl
by_tests false false l k x y z = z refl refl

pub le-of-bits : (f : Format) (a b : ℕ) → le (of_bits f a) (of_bits f b) ≡ float_at_most f a b
unfolding float_at_most
le-of-bits f a b =
    by_tests (nan_bits f a) (nan_bits f b) (le (of_bits f a) (of_bits f b)) (leb (float_key f a) (float_key f b))
    (λ h. nan_left (of_bits f a) (of_bits f b) (sym (nan_bits_is f a) ∙ h))
    (λ h. nan_right (of_bits f a) (of_bits f b) (sym (nan_bits_is f b) ∙ h))
    (le-by-key f a b)

pub le-of-floats : (f : Format) (x y : Float) → fits f x ≡ true → fits f y ≡ true → le x y ≡ float_at_most f (to_bits f x) (to_bits f y)
le-of-floats f x y h k =
    (λ i. le (sym (of_bits-to_bits f x (passes (fits f x) h)) i) (sym (of_bits-to_bits f y (passes (fits f y) k)) i))
    ∙ le-of-bits f (to_bits f x) (to_bits f y)

-- ---- a key as code works it out
pub above-middle : (f : Format) (p : ℕ) → p < top f → top f + p ≡ float_key f p
unfolding float_key
above-middle f p h = rw (lt-leb (top f) p h, mod-eq_of_lt h)

pub below-middle : (f : Format) (p : ℕ) → top f ≤ p → p - top f < top f → top f - (p - top f) ≡ float_key f p
unfolding float_key
below-middle f p h l = rw (le-leb (top f) p h, mod-eq-sub-mod h, mod-eq_of_lt l)
