-- Patterns of one key are both an infinity's or neither is: a float's key has its magnitude, whichever the sign is. And no number between two
-- finite ones is infinite, since no magnitude but a NaN's is above the infinity's.
-- Assumes nothing.
use mathlib.Core.Path.{◌≡◌, refl, sym, ◌∙◌}
use mathlib.Core.Bool.{Bool, true, false}
use Prim.Native.Nat.{ℕ, ◌*◌, ◌%◌, ◌≤◌, ◌<◌}
use native.Mathlib.Nat.{mod-lt}
use native.Mathlib.Omega.{arith}
use lib.Dec.{leb}
use lib.Ieee.{Format, binary32, binary64, hid, ones, top, nan_bits}
use lib.Ieee.Bits.{nan_bits_above}
use borrow.Author.Tests.{ltb-false, eqb-false, ne_eqb}
use Rattle.order.specs.Key.{about, float_key, infinite}
use Rattle.description.specs.declared.Kind.{Kind}
use Rattle.description.specs.declared.Kind.TheVariants.{Int32, Int64, Float32, Float64, Uint64}
use Rattle.description.specs.Kinds.{key, is_nan, is_infinite}

magnitude : (c x y : ℕ) (s t : Bool) → x < c → y < c → about c s x ≡ about c t y → x ≡ y
magnitude c x y true true p q e = omega arith
magnitude c x y true false p q e = omega arith
magnitude c x y false true p q e = omega arith
magnitude c x y false false p q e = omega arith

float-infinite : (f : Format) → 0 < top f → (p q : ℕ) → float_key f p ≡ float_key f q → infinite f p ≡ infinite f q
unfolding float_key infinite
float-infinite f some p q e =
    rw (magnitude (top f) (p % top f) (q % top f) (leb (top f) p) (leb (top f) q) (mod-lt p some) (mod-lt q some) e)

pub infinite-by-key : (k : Kind) (a b : ℕ) → key k a ≡ key k b → is_infinite k a ≡ is_infinite k b
unfolding key is_infinite
infinite-by-key Int32 a b e = refl
infinite-by-key Int64 a b e = refl
infinite-by-key Float32 a b e = float-infinite binary32 (omega arith) a b e
infinite-by-key Float64 a b e = float-infinite binary64 (omega arith) a b e
infinite-by-key Uint64 a b e = refl

apart : (c i x y z : ℕ) (s t u : Bool) → x ≤ i → z ≤ i → (x ≡ i → ⊥) → (z ≡ i → ⊥) → i < c → about c s x ≤ about c t y → about c t y ≤ about c u z
    → y ≡ i → ⊥
apart c i x y z true true true p q f g h l m e = f (omega arith)
apart c i x y z true true false p q f g h l m e = f (omega arith)
apart c i x y z false true true p q f g h l m e = f (omega arith)
apart c i x y z false true false p q f g h l m e = f (omega arith)
apart c i x y z true false true p q f g h l m e = g (omega arith)
apart c i x y z true false false p q f g h l m e = g (omega arith)
apart c i x y z false false true p q f g h l m e = g (omega arith)
apart c i x y z false false false p q f g h l m e = g (omega arith)

float-between : (f : Format) → ones f * hid f < top f → (a b c : ℕ) → nan_bits f a ≡ false → nan_bits f c ≡ false → float_key f a ≤ float_key f b
    → float_key f b ≤ float_key f c → infinite f a ≡ false → infinite f c ≡ false → infinite f b ≡ false
unfolding float_key infinite
float-between f less a b c p q l m g h =
    ne_eqb (b % top f) (ones f * hid f)
    (apart (top f) (ones f * hid f) (a % top f) (b % top f) (c % top f) (leb (top f) a) (leb (top f) b) (leb (top f) c)
    (ltb-false (ones f * hid f) (a % top f) (sym (nan_bits_above f a) ∙ p))
    (ltb-false (ones f * hid f) (c % top f) (sym (nan_bits_above f c) ∙ q))
    (eqb-false (a % top f) (ones f * hid f) g)
    (eqb-false (c % top f) (ones f * hid f) h)
    less l m)

pub finite-between : (k : Kind) (a b c : ℕ) → is_nan k a ≡ false → is_nan k c ≡ false → key k a ≤ key k b → key k b ≤ key k c → is_infinite k a ≡ false
    → is_infinite k c ≡ false → is_infinite k b ≡ false
unfolding key is_nan is_infinite
finite-between Int32 a b c p q l m g h = refl
finite-between Int64 a b c p q l m g h = refl
finite-between Float32 a b c p q l m g h = float-between binary32 (omega arith) a b c p q l m g h
finite-between Float64 a b c p q l m g h = float-between binary64 (omega arith) a b c p q l m g h
finite-between Uint64 a b c p q l m g h = refl
