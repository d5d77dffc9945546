-- Does a query say 23? Never: it checks no stored box, a window may be open with infinities, and neither the checks of
-- the description, 1 and 28, nor the window's nor those of the shape have that number. So the answer over bytes with
-- infinities is the walk's.
-- Assumes nothing.
use mathlib.Core.Path.{◌≡◌, refl}
use mathlib.Core.List.{List}
use Prim.Native.Nat.{ℕ}
use borrow.Author.Tests.{eqb-false}
use Rattle.answers.specs.Refusals.{infinite}
use Rattle.answers.proofs.Others.{Other, either-other, next-other, last-other, check-other, each-other}
use Rattle.description.specs.declared.Description.{Description}
use Rattle.description.specs.declared.Kind.{Kind}
use Rattle.description.specs.Description.{bytes_of_box}
use Rattle.description.proofs.Others.{description-other}
use Rattle.ranges.specs.declared.Range.{Range}
use Rattle.verdicts.specs.declared.Verdict.{Verdict}
use Rattle.verdicts.specs.declared.Verdict.TheVariants.{Sound, Infinite, InfiniteReversed, NotANumber, Reversed}
use Rattle.verdicts.specs.Verdicts as verdicts
use Rattle.boxes.specs.declared.Window.{Window}
use Rattle.boxes.specs.Windows.{side_refusal, window_refusal}
use Rattle.rtree.specs.Body.{shape_refusal}
use Rattle.rtree.proofs.Others.{shape-other}
use Rattle.query.specs.Query.{asked_refusal, asked_refusal_by, query_refusal, query_refusal_by}

asked-other : (v : Verdict) (place : ℕ) → Other infinite (verdicts.asked_refusal v place)
asked-other (Sound r) place = record { apart = refl }
asked-other (Infinite r) place = record { apart = refl }
asked-other InfiniteReversed place = record { apart = refl }
asked-other NotANumber place = record { apart = refl }
asked-other Reversed place = record { apart = refl }

side-other : (r : Range) (k : Kind) (place : ℕ) → Other infinite (side_refusal r k place)
unfolding side_refusal
side-other r k place = search (next-other, check-other, last-other, asked-other)

window-other : (d : Description) (w : Window) → Other infinite (window_refusal d w)
unfolding window_refusal
window-other d w = search (next-other, check-other, last-other, each-other, side-other)

query-other : (d : Description) (n : ℕ) (body : List ℕ) (w : Window) → Other infinite (query_refusal d n body w)
unfolding query_refusal_by asked_refusal_by
query-other d n body w =
    either-other infinite (asked_refusal d n w) (shape_refusal n (bytes_of_box d) body)
    (search (next-other, check-other, last-other, description-other, window-other)) (shape-other infinite refl refl refl refl n (bytes_of_box d) body)

pub never-infinite : (d : Description) (n : ℕ) (body : List ℕ) (w : Window) → (query_refusal d n body w).number ≡ infinite → ⊥
never-infinite d n body w = eqb-false _ _ (query-other d n body w).apart
