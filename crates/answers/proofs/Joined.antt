-- What is joined is had back in parts: where piece i has w i places, those before it have the sum of theirs, and it stands there. And a part of a
-- part is a part of the whole.
-- Assumes nothing.
use Rattle.std.proofs.Common.{◌≡◌, ℕ, zero, suc, ◌+◌, ◌-◌, ◌*◌, ◌<◌, ◌≤◌, List, [], ◌∷◌, ◌++◌, length, take, drop, refl, ap, ◌∙◌, append_assoc, append-nil, zero-add, arith, length-append, take_all, take-take, drop-drop, take_at, take-add, drop_at}
use Rattle.answers.specs.Runs.{over, sum, join}
use Rattle.answers.proofs.Runs.{Each, over_add, over-turn}

module _ {A : Type 0} where
  -- a part of a part
  pub part-of-part : (l : List A) (k b m : ℕ) → k + b ≤ m → take b (drop k (take m l)) ≡ take b (drop k l)
  part-of-part l zero b m h = take-take b m l (omega arith)
  part-of-part l (suc k) b zero h = absurd (omega arith)
  part-of-part [] (suc k) b (suc m) h = refl
  part-of-part (x ∷ l) (suc k) b (suc m) h = part-of-part l k b m (omega arith)

  pub part_in : (l : List A) (at k b m : ℕ) → k + b ≤ m → take b (drop k (take m (drop at l))) ≡ take b (drop (at + k) l)
  part_in l at k b m h = part-of-part (drop at l) k b m h ∙ rw (drop-drop k at l)

  module _ (g : ℕ → List A) (w : ℕ → ℕ) where
    -- each of a run has its own length
    abbrev pub Sized : ℕ → ℕ → Type 0
    Sized k m = Each (λ i. length (g i) ≡ w i) k m

    pub join-length : (k m : ℕ) → Sized k m → length (join g k m) ≡ sum w k m
    unfolding over
    join-length k zero p = refl
    join-length k (suc m) p =
        rw (length-append (g k) (join g (suc k) m), p k (omega arith) (omega arith), join-length (suc k) m (λ i a b. p i (omega arith) (omega arith)))

    -- the pieces from piece i on
    join-drop : (i m : ℕ) → i ≤ m → Sized 0 m → drop (sum w 0 i) (join g 0 m) ≡ join g i (m - i)
    join-drop i m h p =
        let e : m ≡ i + (m - i) = omega arith in
        let whole : join g 0 m ≡ join g 0 i ++ join g i (m - i) =
        ap (join g 0) e ∙ over_add ◌++◌ [] append_assoc (λ a. refl) append-nil g 0 i (m - i) ∙ rw zero-add in
        rw whole (drop_at (join g 0 i) (join g i (m - i)) (sum w 0 i) (join-length 0 i (λ j a b. p j (omega arith) (omega arith))))

    pub join-part : (i m : ℕ) → i < m → Sized 0 m → take (w i) (drop (sum w 0 i) (join g 0 m)) ≡ g i
    join-part i m h p =
        rw (join-drop i m (omega arith) p, over-turn ◌++◌ [] g i (m - i) (omega arith))
        (take_at (g i) (join g (i + 1) (m - i - 1)) (w i) (p i (omega arith) (omega arith)))

-- pieces of one length, cut and joined again
cut-from : {A : Type 0} (b : ℕ) (l : List A) (k m : ℕ) → join (λ i. take b (drop (i * b) l)) k m ≡ take (m * b) (drop (k * b) l)
unfolding over
cut-from b l k zero =
    let z : 0 * b ≡ 0 = omega arith in
    rw z
cut-from b l k (suc m) =
    let next : k * b + b ≡ suc k * b = omega arith in
    let all : suc m * b ≡ b + m * b = omega arith in
    rw (cut-from b l (suc k) m, all, take-add b (m * b) (drop (k * b) l), drop-drop b (k * b) l, next)

pub cut-join : {A : Type 0} (b n : ℕ) (l : List A) → length l ≡ n * b → join (λ i. take b (drop (i * b) l)) 0 n ≡ l
cut-join b n l h =
    let z : 0 * b ≡ 0 = omega arith in
    cut-from b l 0 n ∙ rw z (take_all (n * b) l (omega arith))

pub sum_same : (b k m : ℕ) → sum (λ i. b) k m ≡ m * b
unfolding over
sum_same b k zero = omega arith
sum_same b k (suc m) = omega (arith, sum_same b (suc k) m)
