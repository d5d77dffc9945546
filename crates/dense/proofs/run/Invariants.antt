-- The invariant of `dense::run`: what is left of the run, from where storing goes on, is all of it from where it began,
-- and as many places are gone by as numbers.
-- Assumes nothing.
use mathlib.Core.Path.{◌≡◌}
use mathlib.Core.List.{List, [], ◌∷◌}
use Prim.Native.Nat.{ℕ, ◌+◌, ◌-◌, min}
use lib.ListN.{length}
use Rattle.answers.specs.Runs.{join}
use Rattle.dense.proofs.Storing.{Left}
use Rattle.dense.proofs.run.Given as goal

-- a run of numbers
abbrev pub these : ℕ → ℕ → List ℕ
these a b = join (λ i. i ∷ []) a (b - a)

abbrev pub invariant-loop-t : goal.invariant-loop-t
invariant-loop-t l =
    (l.next + l.start ≡ l.at + l.t) × (l.stop ≡ l.start + min (l.end - l.start) (length l.initial.out - l.at))
    × (length l.out ≡ length l.initial.out) × Left l.initial.out l.at (these l.start l.end) l.out l.next (these l.t l.end)
