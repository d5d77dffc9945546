-- A kind is known by its Datatype number: the number of a kind has that kind again, so kinds of one number are one.
-- Assumes nothing.
use mathlib.Core.Path.{◌≡◌, refl, sym, ap, ◌∙◌}
use mathlib.Core.Bool.{Bool, true, false, ◌&&◌, true≢false}
use borrow.Author.Tests.{eq-eqb, eqb-true}
use denote.Enum.Bare.{sameb, same_true, same_false}
use Rattle.description.specs.contracts.Kind.{the_type}
use Rattle.description.specs.declared.Kind.{Kind}
use Rattle.description.specs.declared.Kind.TheVariants.{Int32, Int64, Float32, Float64, Uint64}
use Rattle.description.specs.Kinds.{datatype, kind_of_datatype, same_kind}

pub kind-again : (k : Kind) → kind_of_datatype (datatype k) ≡ k
unfolding kind_of_datatype
kind-again Int32 = refl
kind-again Int64 = refl
kind-again Float32 = refl
kind-again Float64 = refl
kind-again Uint64 = refl

pub same_kind_lem : (k : Kind) → same_kind k k ≡ true
same_kind_lem k = eq-eqb (datatype k) (datatype k) refl

pub one-kind : (k l : Kind) → same_kind k l ≡ true → k ≡ l
one-kind k l h = sym (kind-again k) ∙ ap kind_of_datatype (eqb-true (datatype k) (datatype l) h) ∙ kind-again l

-- so tests after that of the kind may be made at either
pub when-same : (k l : Kind) (f g : Kind → Bool) → f l ≡ g l → (same_kind k l && f k) ≡ (same_kind k l && g k)
when-same k l f g e = go (same_kind k l) refl
  where
    go : (t : Bool) → same_kind k l ≡ t → (t && f k) ≡ (t && g k)
    go true h = rw (one-kind k l h) e
    go false h = refl

-- as `==` of code tells
pub compared : (k l : Kind) → sameb the_type k l ≡ same_kind k l
compared k l = go (sameb the_type k l) (same_kind k l) refl refl
  where
    go : (s t : Bool) → sameb the_type k l ≡ s → same_kind k l ≡ t → s ≡ t
    go true true e f = refl
    go false false e f = refl
    go true false e f =
        absurd (true≢false (sym (same_kind_lem k) ∙ ap (same_kind k) (same_true the_type tt k l e) ∙ f))
    go false true e f = absurd (same_false the_type k l e (one-kind k l f))
