-- Which patterns are an infinity's? Those that the logic reads as one (`infinite-is`), in either format: a pattern that is no NaN's is
-- read as an infinity exactly where its magnitude is the infinity's. An infinity is told by comparing it with one, and two values that
-- are in order are both finite where the first is above the lower infinity and the second below the upper one. Assumes nothing.
use mathlib.Core.Path.{◌≡◌, refl, sym, ap, ◌∙◌}
use mathlib.Core.Logic.{inl, inr}
use mathlib.Core.Bool.{Bool, true, false, not, ◌&&◌, ◌||◌}
use Prim.Native.Nat.{ℕ, ◌-◌, ◌%◌, ◌^◌}
use native.Mathlib.Omega.{arith}
use lib.Ieee.{Float, nan, inf, fin, Format, binary32, binary64, prec, low, lt, eq, le, top, of_bits, to_bits, nan_bits, fits}
use lib.Ieee.Bits.{nan_bits_above, nan_bits_is, of_bits-to_bits}
use lib.Dec.{leb}
use denote.Floats.{passes}
use borrow.Author.Tests.{eq-eqb, ne_eqb, ltb-true}
use Rattle.order.specs.Key.{infinite, float_at_most}
use Rattle.order.proofs.Worth.{size}
use Rattle.order.proofs.Floats.{infinity, reads, Read, finite, le-of-floats}
use Rattle.order.proofs.Read.{is-nan}

-- an infinity, of either sign, among the logic's values
abbrev pub is_inf : Float → Bool
is_inf nan = false
is_inf (inf s) = true
is_inf (fin s m e) = false

-- a NaN's pattern is no infinity's
pub nan-finite : (f : Format) (p : ℕ) → nan_bits f p ≡ true → infinite f p ≡ false
unfolding infinite
nan-finite f p h = ne_eqb (p % top f) (infinity f) (λ e. omega (arith, ltb-true (infinity f) (p % top f) (sym (nan_bits_above f p) ∙ h)))

-- one that is no NaN's is read as an infinity where it is an infinity's
value-is : (f : Format) (p : ℕ) (s : Bool) (v : Float) → Read f (p % top f) s v → infinite f p ≡ is_inf v
unfolding infinite Read
value-is f p s v (inl h) = eq-eqb (p % top f) (infinity f) h.0 ∙ sym (ap is_inf h.1)
value-is f p s v (inr h) =
    ne_eqb (p % top f) (infinity f) (λ e. omega (arith, h.0))
    ∙ finite (λ (x : Float). false ≡ is_inf x) v s (size (prec f - 1) (p % top f)) (2 ^ low f) h.1 (λ m e. refl)

pub infinite-is : (f : Format) (p : ℕ) → infinite f p ≡ is_inf (of_bits f p)
infinite-is f p = go (nan_bits f p) refl
  where
    go : (t : Bool) → nan_bits f p ≡ t → infinite f p ≡ is_inf (of_bits f p)
    go true h = nan-finite f p h ∙ ap is_inf (is-nan (of_bits f p) (sym (nan_bits_is f p) ∙ h))
    go false h = value-is f p (leb (top f) p) (of_bits f p) (reads f p h)

pub infinite-told : (f : Format) (x : Float) → fits f x ≡ true → infinite f (to_bits f x) ≡ is_inf x
infinite-told f x h = infinite-is f (to_bits f x) ∙ ap is_inf (of_bits-to_bits f x (passes (fits f x) h))

-- ---- told by comparisons with the infinities, by their patterns
abbrev upper_bits : Format → ℕ
upper_bits binary32 = 0x7f80_0000
upper_bits binary64 = 0x7ff0_0000_0000_0000

abbrev lower_bits : Format → ℕ
lower_bits binary32 = 0xff80_0000
lower_bits binary64 = 0xfff0_0000_0000_0000

abbrev pub upper : Format → Float
upper f = of_bits f (upper_bits f)

abbrev pub lower : Format → Float
lower f = of_bits f (lower_bits f)

upper_is : (f : Format) → upper f ≡ inf false
unfolding of_bits
upper_is binary32 = refl
upper_is binary64 = refl

lower-is : (f : Format) → lower f ≡ inf true
unfolding of_bits
lower-is binary32 = refl
lower-is binary64 = refl

is_one : (x : Float) → (eq x (inf false) || eq x (inf true)) ≡ is_inf x
unfolding eq
is_one nan = refl
is_one (inf true) = refl
is_one (inf false) = refl
is_one (fin s m e) = refl

between : (x y : Float) → ((lt (inf true) x && le x y) && lt y (inf false)) ≡ (le x y && (not (is_inf x) && not (is_inf y)))
unfolding le lt eq
between nan y = refl
between (inf true) nan = refl
between (inf true) (inf true) = refl
between (inf true) (inf false) = refl
between (inf true) (fin t n d) = refl
between (inf false) nan = refl
between (inf false) (inf true) = refl
between (inf false) (inf false) = refl
between (inf false) (fin t n d) = refl
between (fin s m e) nan = refl
between (fin s m e) (inf true) = refl
between (fin s m e) (inf false) = refl
between (fin s m e) (fin t n d) = refl

pub equals-one : (f : Format) (x : Float) → fits f x ≡ true → (eq x (upper f) || eq x (lower f)) ≡ infinite f (to_bits f x)
equals-one f x h = rw (upper_is f, lower-is f) (is_one x ∙ sym (infinite-told f x h))

pub finite-in-order : (f : Format) (x y : Float) → fits f x ≡ true → fits f y ≡ true
    → ((lt (lower f) x && le x y) && lt y (upper f))
    ≡ (float_at_most f (to_bits f x) (to_bits f y) && (not (infinite f (to_bits f x)) && not (infinite f (to_bits f y))))
finite-in-order f x y h k =
    rw (upper_is f, lower-is f, infinite-told f x h, infinite-told f y k, ← (le-of-floats f x y h k)) (between x y)
