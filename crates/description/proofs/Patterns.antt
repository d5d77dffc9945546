-- The order of bit patterns, over any ordered kind: `at_most` says that neither pattern is a NaN's and that the keys stand in order,
-- so it is reflexive where there is no NaN, and transitive. Two patterns are alike where they are one, or both a NaN's: then every comparison
-- tells the same of both.
-- Assumes nothing.
use mathlib.Core.Path.{◌≡◌, refl, sym, ap, ◌∙◌}
use mathlib.Core.Logic.{◌⊎◌, inl, inr}
use mathlib.Core.Bool.{true, false, not, ◌&&◌}
use Prim.Native.Nat.{ℕ, ◌≤◌, ◌<◌, ◌^◌}
use native.Mathlib.Nat.{le_refl, le_trans}
use lib.Dec.{leb}
use lib.Ieee.{binary32, binary64}
use lib.IntN.{ℤ}
use lib.Signed.{mag}
use mir.Syntax.{Width}
use mir.Val.{hbits, to_z, of_z}
use mir.ValLaws.{to_z-of_z}
use Rattle.order.specs.Key.{signed_at_most}
use Rattle.order.proofs.Infinities.{nan-finite}
use borrow.Author.Tests.{le-leb, leb-true, not-true}
use Rattle.description.specs.declared.Kind.{Kind}
use Rattle.description.specs.declared.Kind.TheVariants.{Int32, Int64, Float32, Float64, Uint64}
use Rattle.description.specs.Kinds.{is_nan, is_infinite, Ordered, ordered, at_most}
use Rattle.description.proofs.Tests.{both}

-- what it says
module _ (o : Ordered) (a b : ℕ) where
  pub at-most-says : at_most o a b ≡ true → (o.nan a ≡ false) × (o.nan b ≡ false) × (o.key a ≤ o.key b)
  unfolding at_most
  at-most-says h =
      let s = both (not (o.nan a)) (not (o.nan b) && leb (o.key a) (o.key b)) h in
      let t = both (not (o.nan b)) (leb (o.key a) (o.key b)) s.1 in
      (not-true (o.nan a) s.0, not-true (o.nan b) t.0, leb-true (o.key a) (o.key b) t.1)

  pub at-most-when : o.nan a ≡ false → o.nan b ≡ false → o.key a ≤ o.key b → at_most o a b ≡ true
  unfolding at_most
  at-most-when p q l = rw (p, q) (le-leb (o.key a) (o.key b) l)

pub at-most-refl : (o : Ordered) (a : ℕ) → o.nan a ≡ false → at_most o a a ≡ true
at-most-refl o a p = at-most-when o a a p p (le_refl (o.key a))

pub at-most-trans : (o : Ordered) (a b c : ℕ) → at_most o a b ≡ true → at_most o b c ≡ true → at_most o a c ≡ true
at-most-trans o a b c p q =
    let s = at-most-says o a b p in
    let t = at-most-says o b c q in
    at-most-when o a c s.0 t.1 (le_trans s.2 t.2)

-- a NaN is no infinity
pub nan-no-infinity : (k : Kind) (a : ℕ) → is_nan k a ≡ true → is_infinite k a ≡ false
unfolding is_nan is_infinite
nan-no-infinity Int32 a h = refl
nan-no-infinity Int64 a h = refl
nan-no-infinity Float32 a h = nan-finite binary32 a h
nan-no-infinity Float64 a h = nan-finite binary64 a h
nan-no-infinity Uint64 a h = refl

-- alike
abbrev pub Alike : Ordered → ℕ → ℕ → Type 0
Alike o p q = (p ≡ q) ⊎ ((o.nan p ≡ true) × (o.nan q ≡ true))

module _ (o : Ordered) (p q : ℕ) where
  pub alike-nan : Alike o p q → o.nan p ≡ o.nan q
  alike-nan (inl e) = rw e
  alike-nan (inr h) = h.0 ∙ sym h.1

  pub alike-left : (x : ℕ) → Alike o p q → at_most o p x ≡ at_most o q x
  unfolding at_most
  alike-left x (inl e) = rw e
  alike-left x (inr h) = rw (h.0, h.1)

  pub alike_right : (x : ℕ) → Alike o p q → at_most o x p ≡ at_most o x q
  unfolding at_most
  alike_right x (inl e) = rw e
  alike_right x (inr h) = rw (h.0, h.1)

pub alike-infinite : (k : Kind) (p q : ℕ) → Alike (ordered k) p q → is_infinite k p ≡ is_infinite k q
alike-infinite k p q (inl e) = rw e
alike-infinite k p q (inr h) = nan-no-infinity k p h.0 ∙ sym (nan-no-infinity k q h.1)

-- a signed number that its width holds stays that number, however often it is passed on
pub held : (w : Width) (x : ℤ) → mag x < 2 ^ hbits w → to_z w (of_z w (to_z w (of_z w (to_z w (of_z w x))))) ≡ x
held w x f =
    let e = to_z-of_z w x (record { sfits = f }) in
    ap (λ (z : ℤ). to_z w (of_z w (to_z w (of_z w z)))) e ∙ ap (λ (z : ℤ). to_z w (of_z w z)) e ∙ e

-- signed numbers that were passed on are read back from their bits
pub as_passed : (w : Width) (x y : ℤ) → mag x < 2 ^ hbits w → mag y < 2 ^ hbits w
    → signed_at_most w (of_z w (to_z w (of_z w x))) (of_z w (to_z w (of_z w y))) ≡ signed_at_most w (of_z w x) (of_z w y)
as_passed w x y f g = rw (to_z-of_z w x (record { sfits = f }), to_z-of_z w y (record { sfits = g }))
