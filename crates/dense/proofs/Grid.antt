-- A tile's number and its places say the same: the number of places that meet is a tile that meets (`number-below`,
-- `number-meets`), and a tile that meets is the number of such places (`places-meet`, `places-number`); and a number has
-- the places that it is the number of (`number-places`).
-- Assumes nothing.
use mathlib.Core.Path.{◌≡◌, refl, ◌∙◌}
use mathlib.Core.Bool.{Bool, true}
use Prim.Native.Nat.{ℕ, zero, suc, ◌+◌, ◌*◌, ◌/◌, ◌%◌, ◌≤◌, ◌<◌}
use native.Mathlib.Nat.{div-eq_of_lt-le, mod-eq_of_lt, mul-add-mod_self_right, mul-le-mul_right, div-lt_iff_lt-mul, mod-lt, div-add-mod', mul-zero}
use native.Mathlib.Decide.{dec_le}
use native.Mathlib.Omega.{arith}
use borrow.Author.Tests.{eq-eqb, ne_eqb}
use Rattle.answers.specs.Runs.{over}
use Rattle.answers.proofs.Runs.{Each}
use Rattle.description.proofs.Tests.{both}
use Rattle.dense.specs.Grid.{product, number_of, place_of, tile_meets}

-- a quotient and its rest
pub quotient : (p b s : ℕ) → s < b → (p * b + s) / b ≡ p
quotient p b s h = div-eq_of_lt-le b (omega arith) (omega arith)

pub rest : (p b s : ℕ) → s < b → (p * b + s) % b ≡ s
rest p b s h = mul-add-mod_self_right p b s ∙ mod-eq_of_lt h

module _ (tiles : ℕ → ℕ) where
  pub number-below : (place : ℕ → ℕ) (k m : ℕ) → Each (λ j. place j < tiles j) k m
      → number_of tiles place k m < product tiles k m
  unfolding over number_of
  number-below place k zero p = omega arith
  number-below place k (suc m) p =
      let f = product tiles (suc k) m in
      let here : (place k + 1) * f ≤ tiles k * f = mul-le-mul_right f (omega (arith, p k (omega arith) (omega arith))) in
      omega (arith, number-below place (suc k) m (λ j a b. p j (omega arith) (omega arith)))

  pub number_same : (p q : ℕ → ℕ) (k m : ℕ) → Each (λ j. p j ≡ q j) k m → number_of tiles p k m ≡ number_of tiles q k m
  unfolding number_of
  number_same p q k zero e = refl
  number_same p q k (suc m) e =
      rw (e k (omega arith) (omega arith), number_same p q (suc k) m (λ j a b. e j (omega arith) (omega arith)))

  place_here : (k m t : ℕ) → place_of tiles k (suc m) t k ≡ t / product tiles (suc k) m
  unfolding place_of
  place_here k m t = rw (eq-eqb k k refl)

  place-later : (k m t j : ℕ) → suc k ≤ j → place_of tiles k (suc m) t j ≡ place_of tiles (suc k) m (t % product tiles (suc k) m) j
  unfolding place_of
  place-later k m t j h = rw (ne_eqb j k (λ e. omega arith))

  some : (f n t : ℕ) → t < n * f → 0 < f
  some zero n t h = absurd (omega (arith, mul-zero n))
  some (suc f) n t h = omega arith

  pub places-number : (k m t : ℕ) → t < product tiles k m → number_of tiles (place_of tiles k m t) k m ≡ t
  unfolding over number_of
  places-number k zero t h = omega arith
  places-number k (suc m) t h =
      let f = product tiles (suc k) m in
      rw (
        place_here k m t,
        number_same (place_of tiles k (suc m) t) (place_of tiles (suc k) m (t % f)) (suc k) m (λ j a b. place-later k m t j a),
        places-number (suc k) m (t % f) (mod-lt t (some f (tiles k) t h)),
      )
      (div-add-mod' t f)

  -- and back: the places of the number of places
  pub number-places : (place : ℕ → ℕ) (k m : ℕ) → Each (λ j. place j < tiles j) k m
      → Each (λ j. place_of tiles k m (number_of tiles place k m) j ≡ place j) k m
  unfolding number_of
  number-places place k zero p j a b = absurd (omega arith)
  number-places place k (suc m) p j a b =
      go (dec_le j k) (number-below place (suc k) m (λ i c e. p i (omega arith) (omega arith)))
      (λ l. number-places place (suc k) m (λ i c e. p i (omega arith) (omega arith)) j l (omega arith))
    where
      f : ℕ
      f = product tiles (suc k) m

      s : ℕ
      s = number_of tiles place (suc k) m

      go : Dec (j ≤ k) → s < f → (suc k ≤ j → place_of tiles (suc k) m s j ≡ place j)
          → place_of tiles k (suc m) (place k * f + s) j ≡ place j
      go (yes l) small later =
          let z : j ≡ k = omega arith in
          rw (z, place_here k m (place k * f + s)) (quotient (place k) f s small)
      go (no l) small later =
          rw (place-later k m (place k * f + s) j (omega arith), rest (place k) f s small) (later (omega arith))

  module _ (meets : ℕ → ℕ → Bool) where
    abbrev pub Meeting : (ℕ → ℕ) → ℕ → Type 0
    Meeting place j = (place j < tiles j) × (meets j (place j) ≡ true)

    pub number-meets : (place : ℕ → ℕ) (k m : ℕ) → Each (Meeting place) k m
        → tile_meets tiles meets k m (number_of tiles place k m) ≡ true
    unfolding tile_meets number_of
    number-meets place k zero p = refl
    number-meets place k (suc m) p =
        let f = product tiles (suc k) m in
        let s = number_of tiles place (suc k) m in
        let small = number-below place (suc k) m (λ j a b. (p j (omega arith) (omega arith)).0) in
        rw (quotient (place k) f s small, rest (place k) f s small, (p k (omega arith) (omega arith)).1)
        (number-meets place (suc k) m (λ j a b. p j (omega arith) (omega arith)))

    pub places-meet : (k m t : ℕ) → t < product tiles k m → tile_meets tiles meets k m t ≡ true → Each (Meeting (place_of tiles k m t)) k m
    unfolding over tile_meets
    places-meet k zero t h e j a b = absurd (omega arith)
    places-meet k (suc m) t h e j a b =
        let f = product tiles (suc k) m in
        let fine = some f (tiles k) t h in
        let parts = both (meets k (t / f)) (tile_meets tiles meets (suc k) m (t % f)) e in
        go (dec_le j k) ((div-lt_iff_lt-mul {x = t} {y = tiles k} fine).1 h, parts.0)
        (λ l. places-meet (suc k) m (t % f) (mod-lt t fine) parts.1 j l (omega arith))
      where
        go : Dec (j ≤ k) → Meeting (λ i. t / product tiles (suc k) m) k
            → (suc k ≤ j → Meeting (place_of tiles (suc k) m (t % product tiles (suc k) m)) j) → Meeting (place_of tiles k (suc m) t) j
        go (yes l) here later =
            let z : j ≡ k = omega arith in
            rw (z, place_here k m t) here
        go (no l) here later = rw (place-later k m t j (omega arith)) (later (omega arith))

  all_meet : (k m t : ℕ) → tile_meets tiles (λ j c. true) k m t ≡ true
  unfolding tile_meets
  all_meet k zero t = refl
  all_meet k (suc m) t = all_meet (suc k) m (t % product tiles (suc k) m)

  pub places-below : (k m t : ℕ) → t < product tiles k m → Each (λ j. place_of tiles k m t j < tiles j) k m
  places-below k m t h j a b = (places-meet (λ i c. true) k m t h (all_meet k m t) j a b).0
