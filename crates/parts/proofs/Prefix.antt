-- A body that begins with the bytes so far and a block begins with the bytes so far, and the block is what it has next
-- (`begins-got`, `begins-next`).
-- Assumes nothing.
use mathlib.Core.Path.{◌≡◌, ap, sym, ◌∙◌}
use mathlib.Core.List.{List, ◌++◌}
use Prim.Native.Nat.{ℕ, ◌+◌, ◌-◌, ◌≤◌, min}
use native.Mathlib.Omega.{arith}
use lib.ListN.{length, take, drop, length-append, length-take, length-drop}
use lib.Seq.{take-take, take_all, take-append_seam, drop-append_seam}
use Rattle.parts_state.specs.Took.{Begins}
use Rattle.parts.specs.Code.Steps.{Reads}
use Rattle.parts.proofs.Lists.{take-drop}

module _ (got bytes body : List ℕ) (b : Begins (got ++ bytes) body) where
  pub begins-got : Begins got body
  begins-got =
      sym (take-take (length got) (length (got ++ bytes)) body (rw length-append (omega arith)))
      ∙ ap (take (length got)) b
      ∙ take-append_seam got bytes

  pub begins-next : Reads body (length got) bytes
  begins-next =
      take-drop (length got) (length bytes) body
      ∙ rw (← (length-append got bytes)) (ap (drop (length got)) b ∙ drop-append_seam got bytes)

  pub begins-length : length got + length bytes ≤ length body
  begins-length =
      let e : min (length (got ++ bytes)) (length body) ≡ length (got ++ bytes) = rw length-take at (ap length b) in
      omega (arith, length-append got bytes)

-- the rest of a list, as it is lent
pub rest-is : (l : List ℕ) (a : ℕ) → take (length l - a) (drop a l) ≡ drop a l
rest-is l a = take_all (length l - a) (drop a l) (rw length-drop (omega arith))
