-- What stands where a side was written: the bytes that were copied (`eight-copied`, `sixteen-copied`), or both ends
-- widened; and a side that is read from a part of a box is the box's (`side-part`).
-- Assumes nothing.
use mathlib.Core.Path.{◌≡◌, refl, sym, ap, ◌∙◌}
use mathlib.Core.Bool.{cond}
use mathlib.Core.Logic.{◌⊎◌, inl, inr}
use mathlib.Core.List.{List, ◌++◌, append-nil}
use Prim.Native.Nat.{ℕ, ◌+◌, ◌-◌, ◌≤◌, ◌<◌}
use native.Mathlib.Nat.{zero-add}
use native.Mathlib.Omega.{arith}
use lib.Dec.{leb}
use lib.ListN.{length, get_or, take, drop, length-take, length-drop}
use lib.Seq.{sets, sets-eq, take_all, take-add, drop-length}
use Rattle.order.specs.Little.{little, bytes_of}
use Rattle.order.proofs.Bytes.{bytes-length}
use Rattle.description.specs.declared.Kind.{Kind}
use Rattle.description.specs.declared.Kind.TheVariants.{Int64, Float32, Float64, Uint64}
use Rattle.description.specs.Kinds.{range_bytes}
use Rattle.ranges.proofs.Reading.{part-ends}
use Rattle.widened.specs.Widened.{widened_kind, widened_side}
use Rattle.widened.proofs.Boxes.{side-length}
use Rattle.order.proofs.Stores.{bytes-there, number-stored, part-stored}

-- copied
module _ (s : List ℕ) (byte : (i : ℕ) → get_or s i 0 < 256) where
  pub sixteen-copied : length s ≡ 16 → bytes_of 8 (little s 0 8) ++ bytes_of 8 (little s 8 8) ≡ s
  sixteen-copied h =
      rw (bytes-there s byte 0 8 (omega arith), bytes-there s byte 8 8 (omega arith))
      (sym (take-add 8 8 s) ∙ take_all 16 s (omega arith))

  pub eight-copied : length s ≡ 8 → bytes_of 8 (little s 0 8) ≡ s
  eight-copied h = bytes-there s byte 0 8 (omega arith) ∙ take_all 8 s (omega arith)

-- widened, from a part that is the range
pub side-part : (s : List ℕ) (at w : ℕ) → w ≡ 8 → at + 8 ≤ length s → widened_side Float32 (take w (drop at s)) 0 ≡ widened_side Float32 s at
unfolding widened_side
side-part s at w e h = rw (part-ends Float32 s at w e (omega arith))

-- one number that fills the buffer
pub one-stored : (l new : List ℕ) (m x : ℕ) → length l ≡ m → new ≡ cond (leb (0 + m) (length l)) (sets l 0 (bytes_of m x)) l → new ≡ bytes_of m x
one-stored l new m x h e =
    let long = bytes-length m x in
    let whole : length (bytes_of m x) ≡ length l = omega arith in
    number-stored l new 0 m x (omega arith) e ∙ sets-eq (bytes_of m x) l 0 (omega arith) ∙ rw (zero-add, whole, drop-length, append-nil)

-- ---- the three ways, by what is stored
-- both ends as float64
pub widened-stored : (out s : List ℕ) (at from : ℕ) (part : List ℕ) → from + 8 ≤ length s → at + 16 ≤ length out
    → part ≡ widened_side Float32 (take (from + 8 - from) (drop from s)) 0
    → take at out ++ (part ++ drop (at + 16 - at) (drop at out)) ≡ sets out at (widened_side Float32 s from)
widened-stored out s at from part there room e =
    let same = e ∙ side-part s from (from + 8 - from) (omega arith) there in
    let long = ap length same ∙ side-length s from Float32 there in
    part-stored out at (at + 16 - at) part (omega arith) (omega arith) ∙ rw same

-- as it is
pub copied-stored : (out s : List ℕ) (at from w : ℕ) (part : List ℕ) → from + w ≤ length s → at + w ≤ length out → part ≡ take (from + w - from) (drop from s)
    → take at out ++ (part ++ drop (at + w - at) (drop at out)) ≡ sets out at (take w (drop from s))
copied-stored out s at from w part there room e =
    let size : from + w - from ≡ w = omega arith in
    let same : part ≡ take w (drop from s) = e ∙ rw size in
    let long : length part ≡ w = ap length same ∙ simp (length-take, length-drop) (omega arith) in
    part-stored out at (at + w - at) part (omega arith) (omega arith) ∙ rw same

-- a kind of 16 bytes is not widened
pub record Sixteen (k : Kind) : Type 0 where
  pub old : range_bytes k ≡ 16
  pub new : range_bytes (widened_kind k) ≡ 16
  pub same : (s : List ℕ) (at : ℕ) → widened_side k s at ≡ take 16 (drop at s)

pub sixteen-kinds : (k : Kind) → (k ≡ Int64) ⊎ ((k ≡ Float64) ⊎ (k ≡ Uint64)) → Sixteen k
unfolding widened_side
sixteen-kinds k (inl e) = rw e (record { old = refl; new = refl; same = λ s at. refl })
sixteen-kinds k (inr (inl e)) = rw e (record { old = refl; new = refl; same = λ s at. refl })
sixteen-kinds k (inr (inr e)) = rw e (record { old = refl; new = refl; same = λ s at. refl })
