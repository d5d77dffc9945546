-- Lists laid over a buffer one after the other: the first takes its places, and the next is laid over what is left of the buffer. A buffer that
-- is full by then has nothing left, and what is laid over nothing is nothing.
-- Assumes nothing.
use mathlib.Core.Path.{◌≡◌, refl}
use mathlib.Core.List.{List, [], ◌∷◌, ◌++◌, append_assoc, append-nil}
use Prim.Native.Nat.{ℕ, zero, suc, ◌-◌, ◌≤◌, min}
use native.Mathlib.Decide.{dec_le}
use native.Mathlib.Omega.{arith}
use lib.ListN.{length, take, drop, length-append, length-take, length-drop, drop_of_length-le}
use lib.Seq.{take_all, take-nil, drop-nil, drop-drop, take_at, drop_at}
use Rattle.answers.specs.Laid.{laid}

pub laid_nil : (out : List ℕ) → laid [] out ≡ out
laid_nil out = rw take-nil

-- as many of two lists as fit
take-joined : (m : ℕ) (xs ys : List ℕ) → take m (xs ++ ys) ≡ take m xs ++ take (m - length xs) ys
take-joined zero xs ys =
    let z : 0 - length xs ≡ 0 = omega arith in
    rw z
take-joined (suc m) [] ys =
    let z : suc m - 0 ≡ suc m = omega arith in
    rw z
take-joined (suc m) (x ∷ xs) ys =
    let z : suc m - suc (length xs) ≡ m - length xs = omega arith in
    rw (z, take-joined m xs ys)

pub laid-append : (xs ys out : List ℕ) → laid (xs ++ ys) out ≡ take (length out) xs ++ laid ys (drop (length xs) out)
laid-append xs ys out =
    rw (take-joined, length-append, ← (drop-drop (length ys) (length xs) out), append_assoc, ← (length-drop (length xs) out))

-- the places that a list takes, and the others
module _ (xs out : List ℕ) where
  placed : length (take (length out) xs) ≡ min (length xs) (length out)
  placed = simp length-take (omega arith)

  pub laid-front : take (min (length xs) (length out)) (laid xs out) ≡ take (length out) xs
  laid-front = take_at (take (length out) xs) (drop (length xs) out) (min (length xs) (length out)) placed

  pub laid-rest : drop (min (length xs) (length out)) (laid xs out) ≡ drop (length xs) out
  laid-rest = drop_at (take (length out) xs) (drop (length xs) out) (min (length xs) (length out)) placed

-- nothing is left of a full buffer
full : (xs ys out : List ℕ) → length out ≤ length xs → laid ys (drop (length xs) out) ≡ []
full xs ys out h = rw (drop_of_length-le out h, drop-nil)

-- a list between others: what stands from its first place on, and in its own places
pub laid_from : (xs ys out : List ℕ) → drop (length xs) (laid (xs ++ ys) out) ≡ laid ys (drop (length xs) out)
laid_from xs ys out = rw (laid-append xs ys out) (go (dec_le (length out) (length xs)))
  where
    go : Dec (length out ≤ length xs)
        → drop (length xs) (take (length out) xs ++ laid ys (drop (length xs) out)) ≡ laid ys (drop (length xs) out)
    go (yes h) =
        let short : length (take (length out) xs) ≤ length xs = simp length-take (omega arith) in
        rw (full xs ys out h, append-nil, drop_of_length-le (take (length out) xs) short)
    go (no h) =
        let all = take_all (length out) xs (omega arith) in
        rw all (drop_at xs (laid ys (drop (length xs) out)) (length xs) refl)

pub laid-own : (xs ys out : List ℕ) → take (length xs) (laid (xs ++ ys) out) ≡ take (length out) xs
laid-own xs ys out = rw (laid-append xs ys out) (go (dec_le (length out) (length xs)))
  where
    go : Dec (length out ≤ length xs)
        → take (length xs) (take (length out) xs ++ laid ys (drop (length xs) out)) ≡ take (length out) xs
    go (yes h) =
        let short : length (take (length out) xs) ≤ length xs = simp length-take (omega arith) in
        rw (full xs ys out h, append-nil, take_all (length xs) (take (length out) xs) short)
    go (no h) =
        let all = take_all (length out) xs (omega arith) in
        rw all (take_at xs (laid ys (drop (length xs) out)) (length xs) refl)
