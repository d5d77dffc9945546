-- What is said of a number: of the kind that it is some kind's, or else where it is no kind's.
-- Assumes nothing.
use Rattle.std.proofs.Common.{◌≡◌, ℕ, Bool, true, false, cond, Some, None, ap, refl}
use Rattle.description.specs.declared.Kind.{Kind}
use Rattle.description.specs.Kinds.{kind_of_datatype, is_datatype}
use Rattle.c_values.specs.Numbered.{of_kind}

module _ {A : Type 0} (number : ℕ) (f : Kind → A) (other : A) where
  pub some_kind : {k : Kind} → Some k ≡ of_kind number (λ kind. Some kind) None → f k ≡ of_kind number f other
  some_kind {k = k} e = go (is_datatype number) e
    where
      go : (b : Bool) → Some k ≡ cond b (Some (kind_of_datatype number)) None → f k ≡ cond b (f (kind_of_datatype number)) other
      go true e = let same : k ≡ kind_of_datatype number = cc in ap f same
      go false e = cc

  pub no_kind : None ≡ of_kind number (λ kind. Some kind) None → other ≡ of_kind number f other
  no_kind e = go (is_datatype number) e
    where
      go : (b : Bool) → None ≡ cond b (Some (kind_of_datatype number)) None → other ≡ cond b (f (kind_of_datatype number)) other
      go true e = cc
      go false e = refl
