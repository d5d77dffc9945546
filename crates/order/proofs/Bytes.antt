-- The bytes of a number stand for it, wherever they are read.
-- Assumes nothing.
use mathlib.Core.Path.{◌≡◌, refl, sym, ap, ◌∙◌}
use mathlib.Core.List.{List, ◌∷◌}
use Prim.Native.Nat.{ℕ, zero, suc, ◌+◌, ◌*◌, ◌/◌, ◌%◌, ◌^◌, ◌<◌}
use native.Mathlib.Nat.{add-zero, suc-add, pow-succ', div-lt_iff_lt-mul, div-add-mod'}
use native.Mathlib.Omega.{arith}
use lib.ListN.{length, take, drop}
use lib.Seq.{take_all}
use Rattle.order.specs.Little.{little, bytes_of}
use Rattle.order.proofs.Little.{little-part}

pub bytes-length : (m x : ℕ) → length (bytes_of m x) ≡ m
unfolding bytes_of
bytes-length zero x = refl
bytes-length (suc m) x = ap suc (bytes-length m (x / 256))

little-later : (y : ℕ) (s : List ℕ) (at m : ℕ) → little (y ∷ s) (suc at) m ≡ little s at m
unfolding little
little-later y s at zero = refl
little-later y s at (suc m) = rw (suc-add at 1, little-later y s (at + 1) m)

pub little-bytes : (m x : ℕ) → x < 256 ^ m → little (bytes_of m x) 0 m ≡ x
unfolding little bytes_of
little-bytes zero x h = omega arith
little-bytes (suc m) x h =
    let less : x < 256 ^ m * 256 = omega (arith, rw pow-succ' at h) in
    let under : x / 256 < 256 ^ m = (div-lt_iff_lt-mul {k = 256} (omega arith)).1 less in
    let e = little-later (x % 256) (bytes_of m (x / 256)) 0 m in
    omega (arith, e, little-bytes m (x / 256) under, div-add-mod' x 256)

-- the same bytes at two places stand for one number
pub little-same : (s t : List ℕ) (at to m : ℕ) → take m (drop at s) ≡ take m (drop to t) → little s at m ≡ little t to m
little-same s t at to m e =
    let p : little (take m (drop at s)) 0 m ≡ little s at m = little-part s at m 0 m (omega arith) ∙ rw add-zero in
    let q : little (take m (drop to t)) 0 m ≡ little t to m = little-part t to m 0 m (omega arith) ∙ rw add-zero in
    sym p ∙ rw e q

-- where they are found
pub little-found : (s : List ℕ) (at m x : ℕ) → x < 256 ^ m → take m (drop at s) ≡ bytes_of m x → little s at m ≡ x
little-found s at m x h e =
    little-same s (bytes_of m x) at 0 m (e ∙ sym (take_all m (bytes_of m x) (omega (arith, bytes-length m x)))) ∙ little-bytes m x h
