-- Parts of lists: of a part (`within`), of what bytes that are read from a body have (`read-part`), and of a buffer into
-- which bytes were pasted, before them (`pasted-before`) and up to their end (`pasted-upto`).
-- Assumes nothing.
use mathlib.Core.Path.{◌≡◌, refl, ap, sym, ◌∙◌}
use mathlib.Core.Bool.{Bool, true, false, cond}
use mathlib.Core.List.{List, [], ◌∷◌, ◌++◌}
use Prim.Native.Nat.{ℕ, zero, suc, ◌+◌, ◌-◌, ◌≤◌, ◌<◌, min}
use native.Mathlib.Nat.{zero-add, suc-add}
use native.Mathlib.Omega.{arith}
use lib.Dec.{leb}
use lib.ListN.{length, take, drop, length-take, length-drop, length-append}
use lib.Seq.{sets, sets-eq, length-sets, take_at, take-take, drop-drop, drop-append-le, take-append-le, take-nil}
use Rattle.answers.proofs.Joined.{part-of-part}
use Rattle.parts.specs.Code.Steps.{Reads}

pub take-drop : (n m : ℕ) (l : List ℕ) → take m (drop n l) ≡ drop n (take (n + m) l)
take-drop zero m l = rw zero-add
take-drop (suc n) m [] = rw (take-nil {A = ℕ} m, take-nil {A = ℕ} (suc n + m))
take-drop (suc n) m (x ∷ l) = rw suc-add (take-drop n m l)

-- a part of a part that stands elsewhere in another list
pub alike : (l t : List ℕ) (a c size i b : ℕ) → take size (drop a l) ≡ take size (drop c t) → i + b ≤ size
    → take b (drop (a + i) l) ≡ take b (drop (c + i) t)
alike l t a c size i b e h =
    ap (take b) (sym (drop-drop i a l))
    ∙ sym (part-of-part (drop a l) i b size h)
    ∙ ap (λ (x : List ℕ). take b (drop i x)) e
    ∙ part-of-part (drop c t) i b size h
    ∙ ap (take b) (drop-drop i c t)

module _ (body : List ℕ) (p : ℕ) (bytes : List ℕ) (r : Reads body p bytes) where
  pub read-part : (i b : ℕ) → i + b ≤ length bytes → take b (drop i bytes) ≡ take b (drop (p + i) body)
  read-part i b h =
      ap (λ (x : List ℕ). take b (drop i x)) (sym r)
      ∙ part-of-part (drop p body) i b (length bytes) h
      ∙ ap (take b) (drop-drop i p body)

  -- the first of them
  pub read_first : (m : ℕ) → m ≤ length bytes → Reads body p (take m bytes)
  read_first m h =
      let size : length (take m bytes) ≡ m = rw length-take (omega arith) in
      rw size (sym (take-take m (length bytes) (drop p body) h) ∙ ap (take m) r)

  -- those after them
  pub read-rest : (m : ℕ) → m ≤ length bytes → Reads body (p + m) (drop m bytes)
  read-rest m h =
      let size : length (drop m bytes) ≡ length bytes - m = length-drop m bytes in
      let all : m + (length bytes - m) ≡ length bytes = omega arith in
      rw (size, ← (drop-drop m p body), take-drop m (length bytes - m) (drop p body), all)
      (ap (drop m) r)

  pub read-there : 0 < length bytes → p + length bytes ≤ length body
  read-there some =
      let e : min (length bytes) (length body - p) ≡ length bytes = rw (length-take, length-drop) at (ap length r) in
      omega arith

-- a buffer into which bytes were pasted
module _ (work : List ℕ) (to : ℕ) (bytes : List ℕ) (fits : to + length bytes ≤ length work) where
  abbrev after : List ℕ
  after = sets work to bytes

  pub upto : take (to + length bytes) after ≡ take to work ++ bytes
  upto =
      rw (sets-eq bytes work to fits)
      (take_at (take to work ++ bytes) _ (to + length bytes) (simp (length-append, length-take) (omega arith)))

  before : (m : ℕ) → m ≤ to → take m after ≡ take m work
  before m h =
      sym (take-take m (to + length bytes) after (omega arith))
      ∙ rw upto (take-append-le m (take to work) bytes (rw length-take (omega arith)) ∙ take-take m to work h)

  pub pasted-before : (a m : ℕ) → a + m ≤ to → take m (drop a after) ≡ take m (drop a work)
  pasted-before a m h = take-drop a m after ∙ rw (before (a + m) h) (sym (take-drop a m work))

  pub pasted-upto : (a m : ℕ) → a + m ≡ to → take (m + length bytes) (drop a after) ≡ take m (drop a work) ++ bytes
  pasted-upto a m h =
      let z : a + (m + length bytes) ≡ to + length bytes = omega arith in
      take-drop a (m + length bytes) after
      ∙ rw (z, upto, drop-append-le a (take to work) bytes (rw length-take (omega arith)), ← h, ← (take-drop a m work))

-- bytes that are copied where they fit
pub copied-length : {out : List ℕ} (l : List ℕ) (at : ℕ) (vs : List ℕ)
    → out ≡ cond (leb (at + length vs) (length l)) (sets l at vs) l → length out ≡ length l
copied-length l at vs e = ap length e ∙ go (leb (at + length vs) (length l))
  where
    go : (t : Bool) → length (cond t (sets l at vs) l) ≡ length l
    go true = simp length-sets
    go false = refl
