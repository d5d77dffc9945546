-- How two ranges lie to each other. Both comparisons ask for one kind and then compare the ends; ranges of different kinds are apart. What the
-- comparisons of the ends have as laws is shown over any ordered kind: a range lies inside itself, what lies inside a range lies inside whatever is
-- around that, and what meets a query makes whatever is around it meet, since the order is transitive. The laws of ranges are these at the kind of the
-- ranges, whichever it is.
-- Assumes nothing.
use mathlib.Core.Path.{◌≡◌, refl, sym, ap, ◌∙◌, subst}
use mathlib.Core.Bool.{Bool, true, false, not, ◌&&◌, ◌||◌}
use mathlib.Core.List.{List}
use Prim.Native.Nat.{ℕ, ◌<◌, ◌^◌}
use lib.Dec.{T, leb}
use lib.IntN.{ℤ}
use lib.Signed.{mag}
use types.Run.{OneOf, miss}
use denote.Enum.Declared.{tag_of}
use mir.Syntax.{Width}
use mir.Val.{has_key, hbits, to_z, of_z}
use mir.ValLaws.{to_z-of_z}
use Rattle.description.specs.declared.Kind.{Kind}
use Rattle.description.specs.declared.Kind.TheVariants.{Int32, Int64, Float32, Float64, Uint64}
use Rattle.description.specs.Kinds.{Ordered, is_nan, ordered, same_kind, at_most}
use Rattle.description.proofs.Datatypes.{same_kind_lem, one-kind}
use Rattle.description.proofs.Tests.{both, neither, and-false}
use Rattle.description.proofs.Patterns.{at-most-refl, at-most-trans}
use Rattle.ranges.specs.declared.Range.{Range}
use Rattle.ranges.specs.declared.Range.TheVariants.{I32, I64, F32, F64, U64}
use Rattle.ranges.specs.Ranges.{Ends, ends, kind_of, ends_of, has_nan, inside, meets}
use Rattle.ranges.specs.contracts.Range.{the_type}

-- an answer about x, where x is known to be y
pub when-known : {A B : Type 0} (f : A → B) {x y : A} {v : B} → x ≡ y → v ≡ f y → v ≡ f x
when-known f e h = h ∙ ap f (sym e)

-- a comparison of the ends of two ranges, in an ordered kind
abbrev pub within : Ordered → ℕ → ℕ → ℕ → ℕ → Bool
within o a b c d = at_most o c a && at_most o b d

abbrev pub touching : Ordered → ℕ → ℕ → ℕ → ℕ → Bool
touching o a b c d = at_most o a d && at_most o c b

-- of two ranges: of their kinds, and then of the ends
abbrev pub compared : (Ordered → ℕ → ℕ → ℕ → ℕ → Bool) → Ends → Ends → Bool
compared f e o = same_kind e.kind o.kind && f (ordered e.kind) e.low e.high o.low o.high

-- ---- as the code compares
pub ends-parts : (r : Range) → ends (kind_of r) (ends_of r).low (ends_of r).high ≡ ends_of r
unfolding ends_of
ends-parts (I32 a b) = refl
ends-parts (I64 a b) = refl
ends-parts (F32 a b) = refl
ends-parts (F64 a b) = refl
ends-parts (U64 a b) = refl

pub ends-kind : (r : Range) → (ends_of r).kind ≡ kind_of r
ends-kind r = ap (λ (e : Ends). e.kind) (sym (ends-parts r))

-- the tag of a range of a kind, in the order in which `Range` names its cases
tag : Kind → ℕ
tag Int32 = 0
tag Int64 = 1
tag Float32 = 2
tag Float64 = 3
tag Uint64 = 4

tag-kind : (r : Range) → tag_of the_type r ≡ tag (ends_of r).kind
unfolding ends_of tag
tag-kind (I32 a b) = refl
tag-kind (I64 a b) = refl
tag-kind (F32 a b) = refl
tag-kind (F64 a b) = refl
tag-kind (U64 a b) = refl

module _ (f : Ordered → ℕ → ℕ → ℕ → ℕ → Bool) (r s r' : Range) (known : r ≡ r') where
  -- of one kind: both ranges are known
  pub of_one : {x : Bool} (s' : Range) → s ≡ s' → x ≡ compared f (ends_of r') (ends_of s') → x ≡ compared f (ends_of r) (ends_of s)
  of_one s' q l = rw (known, q) l

  -- of different kinds: the tag of s is among ks and that of r is not
  pub of_others : (ks : List ℕ) → T (not (has_key ks (tag_of the_type r'))) → OneOf ks (tag_of the_type s) → false ≡ compared f (ends_of r) (ends_of s)
  of_others ks n h = rw known (go (same_kind (ends_of r').kind (ends_of s).kind) refl)
    where
      go : (t : Bool) → same_kind (ends_of r').kind (ends_of s).kind ≡ t
          → false ≡ (t && f (ordered (ends_of r').kind) (ends_of r').low (ends_of r').high (ends_of s).low (ends_of s).high)
      go true e =
          let same = tag-kind s ∙ ap tag (sym (one-kind (ends_of r').kind (ends_of s).kind e)) ∙ sym (tag-kind r') in
          absurd (miss ks (tag_of the_type r') n (subst (OneOf ks) same h))
      go false e = refl

-- two comparisons, the second where the first holds
pub in_order : {p q x y : Bool} → p ≡ x → p ≡ true → q ≡ y → q ≡ (x && y)
in_order e h f = f ∙ rw (← e, h)

-- a signed local holds bits, so an end that was passed on is read from its own
pub int-kept : (w : Width) (x : ℤ) → mag x < 2 ^ hbits w → of_z w (to_z w (of_z w x)) ≡ of_z w x
int-kept w x f = ap (of_z w) (to_z-of_z w x (record { sfits = f }))

pub passed : (w : Width) (g : ℕ → ℕ → Bool) (a b c d : ℤ) {x : Bool}
    → mag a < 2 ^ hbits w → mag b < 2 ^ hbits w → mag c < 2 ^ hbits w → mag d < 2 ^ hbits w
    → x ≡ (g (of_z w (to_z w (of_z w a))) (of_z w (to_z w (of_z w b))) && g (of_z w (to_z w (of_z w c))) (of_z w (to_z w (of_z w d))))
    → x ≡ (g (of_z w a) (of_z w b) && g (of_z w c) (of_z w d))
passed w g a b c d p q r s e = e ∙ (λ i. g (int-kept w a p i) (int-kept w b q i) && g (int-kept w c r i) (int-kept w d s i))

-- ---- the laws, over an ordered kind
module _ (o : Ordered) where
  pub within-refl : (a b : ℕ) → o.nan a ≡ false → o.nan b ≡ false → within o a b a b ≡ true
  within-refl a b p q = rw (at-most-refl o a p, at-most-refl o b q)

  module _ (a b c d x y : ℕ) (i : within o a b c d ≡ true) where
    low : at_most o c a ≡ true
    low = (both (at_most o c a) (at_most o b d) i).0

    high : at_most o b d ≡ true
    high = (both (at_most o c a) (at_most o b d) i).1

    pub within-trans : within o c d x y ≡ true → within o a b x y ≡ true
    within-trans j =
        let k = both (at_most o x c) (at_most o d y) j in
        rw (at-most-trans o x c a k.0 low, at-most-trans o b d y high k.1)

    pub touching-around : touching o a b x y ≡ true → touching o c d x y ≡ true
    touching-around j =
        let k = both (at_most o a y) (at_most o x b) j in
        rw (at-most-trans o c a y low k.0, at-most-trans o x b d k.1 high)

  -- a NaN at either end
  pub touching-nan : (a b c d : ℕ) → (o.nan a || o.nan b) ≡ true → touching o a b c d ≡ false
  unfolding at_most
  touching-nan a b c d = go (o.nan a) (o.nan b) (not (o.nan d) && leb (o.key a) (o.key d)) (not (o.nan c)) (leb (o.key c) (o.key b))
    where
      go : (p q x y z : Bool) → (p || q) ≡ true → ((not p && x) && (y && (not q && z))) ≡ false
      go true q x y z h = refl
      go false true true true z h = refl
      go false true true false z h = refl
      go false true false y z h = refl
      go false false x y z h = cc

-- ---- of ranges
module _ (f : Ordered → ℕ → ℕ → ℕ → ℕ → Bool) (e o : Ends) where
  compared-says : compared f e o ≡ true → (e.kind ≡ o.kind) × (f (ordered e.kind) e.low e.high o.low o.high ≡ true)
  compared-says h =
      let s = both (same_kind e.kind o.kind) _ h in
      (one-kind e.kind o.kind s.0, s.1)

  compared-when : e.kind ≡ o.kind → f (ordered e.kind) e.low e.high o.low o.high ≡ true → compared f e o ≡ true
  compared-when k h = rw (h, ← k, same_kind_lem e.kind)

-- a range without a NaN lies inside itself
pub inside-refl : (e : Ends) → has_nan e ≡ false → inside e e ≡ true
unfolding inside has_nan
inside-refl e h =
    let n = neither (is_nan e.kind e.low) (is_nan e.kind e.high) h in
    compared-when within e e refl (within-refl (ordered e.kind) e.low e.high n.0 n.1)

module _ (e o x : Ends) (p : inside e o ≡ true) where
  -- what lies inside a range lies inside every range around that
  pub inside-trans : inside o x ≡ true → inside e x ≡ true
  unfolding inside
  inside-trans q =
      let s = compared-says within e o p in
      let t = compared-says within o x q in
      compared-when within e x (s.0 ∙ t.0)
      (within-trans (ordered e.kind) e.low e.high o.low o.high x.low x.high s.1 (rw s.0 t.1))

  -- a range that meets a query makes every range around it meet
  pub meets-around : meets e x ≡ true → meets o x ≡ true
  unfolding inside meets
  meets-around m =
      let s = compared-says within e o p in
      let t = compared-says touching e x m in
      compared-when touching o x (sym s.0 ∙ t.0)
      (rw (← s.0) (touching-around (ordered e.kind) e.low e.high o.low o.high x.low x.high s.1 t.1))

-- a range with NaN meets nothing
pub nan-misses : (e q : Ends) → has_nan e ≡ true → meets e q ≡ false
unfolding has_nan meets
nan-misses e q h = rw (touching-nan (ordered e.kind) e.low e.high q.low q.high h) (and-false (same_kind e.kind q.kind))
