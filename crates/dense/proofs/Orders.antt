-- Both orders list the same tiles, each under its number in that order (`same-tiles`): a tile meets by its places, which
-- the order doesn't change. A tile's number in the other order has its own number in this one (`there_and_back`), so no
-- two tiles get one number.
-- Assumes nothing.
use mathlib.Core.Path.{◌≡◌, ap, ◌∙◌}
use mathlib.Core.Bool.{Bool, true}
use mathlib.Core.List.{List, Memᴰ}
use Prim.Native.Nat.{ℕ, ◌<◌}
use native.Mathlib.Omega.{arith}
use Rattle.answers.proofs.Runs.{Each}
use Rattle.description.specs.declared.Description.{Description}
use Rattle.description.specs.Description.{sides_of}
use Rattle.boxes.specs.declared.Window.{Window}
use Rattle.dense.specs.declared.Order.{Order}
use Rattle.dense.specs.Grid.{product, place_of, tile_meets}
use Rattle.dense.specs.Dense.{dimension_of, tiles_in, meets_in, touched}
use Rattle.dense.specs.Cells.{tiles_by, number_by, place_by, renumbered}
use Rattle.dense.proofs.Passing.{passing-has, passing-only}
use Rattle.dense.proofs.Grid.{number-below, number-meets, number_same, number-places, places-meet, places-number, places-below}
use Rattle.dense.proofs.Meaning.{dimension-below, dimension-back}

module _ (d : Description) (domain : Window) (extents : List ℕ) (order other : Order) where
  abbrev m : ℕ
  m = sides_of d.dimensions

  abbrev T : Order → ℕ → ℕ
  T = tiles_by d domain extents

  abbrev at : ℕ → ℕ → ℕ
  at = place_by d domain extents order

  pub there_and_back : (t : ℕ) → t < product (T order) 0 m
      → renumbered d domain extents other order (renumbered d domain extents order other t) ≡ t
  unfolding renumbered
  there_and_back t small =
      let o : ℕ → ℕ = dimension_of order m in
      let p : ℕ → ℕ = dimension_of other m in
      let below : (i : ℕ) → i < m → at t i < tiles_in d domain extents i =
      λ i h.
      let l = dimension-below order m i h in
      rw (dimension-back order m i h) at (places-below (T order) 0 m t small (o i) (omega arith) (omega arith)) in
      let back = number-places (T other) (λ k. at t (p k)) 0 m (λ k a b. below (p k) (dimension-below other m k (omega arith))) in
      number_same (T order) (λ k. place_by d domain extents other (renumbered d domain extents order other t) (o k)) (place_of (T order) 0 m t) 0 m
      (λ k a b.
      let h = dimension-below order m k (omega arith) in
      let l = dimension-below other m (o k) h in
      back (p (o k)) (omega arith) (omega arith)
      ∙ ap (at t) (dimension-back other m (o k) h)
      ∙ ap (place_of (T order) 0 m t) (dimension-back order m k (omega arith)))
      ∙ places-number (T order) 0 m t small

  module _ (w : Window) where
    abbrev M : Order → ℕ → ℕ → Bool
    M o k c = meets_in d domain extents w (dimension_of o m k) c

    pub same-tiles : (t : ℕ) → Memᴰ t (touched d domain extents w order)
        → Memᴰ (renumbered d domain extents order other t) (touched d domain extents w other)
    unfolding touched renumbered
    same-tiles t i =
        let q = passing-only (tile_meets (T order) (M order) 0 m) 0 (product (T order) 0 m) t i in
        let meet = places-meet (T order) (M order) 0 m t (omega arith) q.2 in
        let place : ℕ → ℕ = λ k. at t (dimension_of other m k) in
        let here : Each (λ k. (place k < T other k) × (M other k (place k) ≡ true)) 0 m =
        λ k a b.
        let h = dimension-below other m k (omega arith) in
        let l = dimension-below order m (dimension_of other m k) h in
        rw (dimension-back order m (dimension_of other m k) h) at (meet (dimension_of order m (dimension_of other m k)) (omega arith) (omega arith)) in
        passing-has (tile_meets (T other) (M other) 0 m) 0 (product (T other) 0 m) (number_by d domain extents other (at t)) (omega arith)
        (omega (arith, number-below (T other) place 0 m (λ k a b. (here k a b).0)))
        (number-meets (T other) (M other) place 0 m here)
