-- What a buffer holds after bytes were stored at a place: from there on those bytes and then what it held, and past them
-- what it held. Stores one after the other are one store of all the bytes, so a loop that stores one piece a turn stores
-- them joined (`store-next`).
-- Assumes nothing.
use mathlib.Core.Path.{◌≡◌, refl, sym, ap, ◌∙◌}
use mathlib.Core.Bool.{cond}
use mathlib.Core.List.{List, [], ◌∷◌, ◌++◌, append_assoc, append-nil}
use Prim.Native.Nat.{ℕ, zero, suc, ◌+◌, ◌*◌, ◌/◌, ◌%◌, ◌≤◌, ◌<◌}
use native.Mathlib.Nat.{zero-add}
use native.Mathlib.Numerals.{add-one}
use native.Mathlib.Omega.{arith}
use lib.Dec.{leb}
use lib.ListN.{length, get_or, take, drop, set, length-append, length-take}
use lib.Seq.{sets, sets-eq, length-sets, drop-set-lt, drop-cons, drop_at, drop-length, drop-drop, take-suc}
use borrow.Author.Tests.{le-leb}
use Rattle.answers.specs.Runs.{join}
use Rattle.answers.proofs.Runs.{over-snoc}
use Rattle.answers.proofs.Laid.{sets-append}
use Rattle.order.specs.Little.{little, bytes_of}
use Rattle.order.proofs.Bytes.{bytes-length}

pub drop_past : (l : List ℕ) (at : ℕ) (vs : List ℕ) (c : ℕ) → at + length vs ≤ c → drop c (sets l at vs) ≡ drop c l
drop_past l at [] c h = refl
drop_past l at (v ∷ vs) c h = drop_past (set l at v) (suc at) vs c (omega arith) ∙ drop-set-lt c l at v (omega arith)

pub drop-from : (l : List ℕ) (at : ℕ) (vs : List ℕ) → at + length vs ≤ length l → drop at (sets l at vs) ≡ vs ++ drop (at + length vs) l
drop-from l at vs h =
    rw (sets-eq vs l at h, append_assoc)
    (drop_at (take at l) (vs ++ drop (at + length vs) l) at (simp length-take (omega arith)))

-- one store after another
pub store_both : (l : List ℕ) (at : ℕ) (xs : List ℕ) (m : ℕ) (ys : List ℕ) → length xs ≡ m → sets (sets l at xs) (at + m) ys ≡ sets l at (xs ++ ys)
store_both l at xs m ys h = rw (← h) (sym (sets-append l at xs ys))

-- the next piece of a run
pub store-next : (l : List ℕ) (at : ℕ) (g : ℕ → List ℕ) (i m : ℕ) (vs : List ℕ) → length (join g 0 i) ≡ m → vs ≡ g i
    → sets (sets l at (join g 0 i)) (at + m) vs ≡ sets l at (join g 0 (i + 1))
store-next l at g i m vs h e =
    store_both l at (join g 0 i) m vs h
    ∙ rw (e, add-one i, over-snoc ◌++◌ [] append_assoc (λ a. refl) append-nil g 0 i, zero-add)

-- the next byte of a copy
pub copy-next : (l : List ℕ) (at : ℕ) (vs : List ℕ) (i : ℕ) → i < length vs
    → set (sets l at (take i vs)) (at + i) (get_or vs i 0) ≡ sets l at (take (i + 1) vs)
copy-next l at vs i h =
    store_both l at (take i vs) i (get_or vs i 0 ∷ []) (simp length-take (omega arith)) ∙ rw (add-one i, take-suc vs i 0 h)

-- the bytes of the number that stands at a place are those that stand there
pub bytes-there : (s : List ℕ) (byte : (i : ℕ) → get_or s i 0 < 256) (at m : ℕ) → at + m ≤ length s → bytes_of m (little s at m) ≡ take m (drop at s)
unfolding bytes_of little
bytes-there s byte at zero h = refl
bytes-there s byte at (suc m) h =
    let first : (get_or s at 0 + 256 * little s (at + 1) m) % 256 ≡ get_or s at 0 = omega (arith, byte at) in
    let rest : (get_or s at 0 + 256 * little s (at + 1) m) / 256 ≡ little s (at + 1) m = omega (arith, byte at) in
    rw (first, rest, bytes-there s byte (at + 1) m (omega arith), drop-cons s at 0 (omega arith), add-one at)

-- bytes, stored where they fit
pub bytes-stored : (l out : List ℕ) (at : ℕ) (vs : List ℕ) → at + length vs ≤ length l
    → out ≡ cond (leb (at + length vs) (length l)) (sets l at vs) l → out ≡ sets l at vs
bytes-stored l out at vs h e = e ∙ rw (le-leb (at + length vs) (length l) h)

-- a number of m bytes, stored where it fits
pub number-stored : (l out : List ℕ) (at m x : ℕ) → at + m ≤ length l
    → out ≡ cond (leb (at + m) (length l)) (sets l at (bytes_of m x)) l → out ≡ sets l at (bytes_of m x)
number-stored l out at m x h e = e ∙ rw (le-leb (at + m) (length l) h)

-- two numbers of m bytes each, which fill the buffer
pub pair-stored : (l mid new : List ℕ) (m x y : ℕ) → length l ≡ m + m
    → mid ≡ cond (leb (0 + m) (length l)) (sets l 0 (bytes_of m x)) l → new ≡ cond (leb (m + m) (length mid)) (sets mid m (bytes_of m y)) mid
    → new ≡ bytes_of m x ++ bytes_of m y
pair-stored l mid new m x y long p q =
    let first = number-stored l mid 0 m x (omega arith) p in
    let same : length mid ≡ length l = ap length first ∙ simp length-sets in
    let both : length (bytes_of m x ++ bytes_of m y) ≡ length l = simp length-append (omega (arith, bytes-length m x, bytes-length m y)) in
    number-stored mid new m m y (omega arith) q
    ∙ rw first
    (ap (λ (k : ℕ). sets (sets l 0 (bytes_of m x)) k (bytes_of m y)) (sym (zero-add m))
    ∙ store_both l 0 (bytes_of m x) m (bytes_of m y) (bytes-length m x)
    ∙ sets-eq (bytes_of m x ++ bytes_of m y) l 0 (omega (arith, both))
    ∙ rw (zero-add, both, drop-length, append-nil))

-- a part of k bytes that was replaced by as many
pub part-stored : (l : List ℕ) (at k : ℕ) (vs : List ℕ) → length vs ≡ k → at + k ≤ length l → take at l ++ (vs ++ drop k (drop at l)) ≡ sets l at vs
part-stored l at k vs long h = rw (drop-drop k at l, sets-eq vs l at (omega arith), append_assoc, long)
