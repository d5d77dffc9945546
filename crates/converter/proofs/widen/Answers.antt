-- `converter::widen` meets its contract: a NaN's pattern is answered with the one NaN of 64 bits, and any other is
-- read, cast, and its bits are taken.
-- Assumes nothing.
use mathlib.Core.Path.{◌≡◌, sym, ap, ◌∙◌}
use mathlib.Core.Bool.{false, not}
use Prim.Native.Nat.{ℕ}
use lib.Dec.{T}
use lib.Ieee.{binary32, binary64, of_bits, to_bits, nan_bits, is_nan, fits}
use lib.Ieee.Bits.{nan_bits_is, of_bits-fits}
use lib.Ieee.Fits.{and_i, fits_widens}
use borrow.Author.Rules.{rules}
use Rattle.order.proofs.Read.{no_nan, is-nan}
use Rattle.widened.specs.Widened.{widened_pattern}
use Rattle.converter.proofs.widen.Goals as goal

-- what is read of a pattern that is no NaN's
number : (p : ℕ) → nan_bits binary32 p ≡ false → T (not (is_nan (of_bits binary32 p)))
number p h = rw (← (nan_bits_is binary32 p)) (no_nan binary32 p h)

pub returns-then-nan_pattern : goal.returns-then-nan_pattern
unfolding widened_pattern to_bits
returns-then-nan_pattern c =
    let p = c.args.p in
    ap (to_bits binary64) (is-nan (of_bits binary32 p) (sym (nan_bits_is binary32 p) ∙ sym c.nan_pattern.ensures ∙ c.if-nan_pattern.true))

pub float_to_float-y : goal.float_to_float-y
float_to_float-y c =
    let plain : nan_bits binary32 c.args.p ≡ false
    = sym c.nan_pattern.ensures ∙ c.if-nan_pattern.false in
    let p = c.args.p in
    and_i (fits binary64 (of_bits binary32 p)) (not (is_nan (of_bits binary32 p))) (fits_widens (of_bits binary32 p) (of_bits-fits binary32 p)) (number p plain)

pub float_to_bits-result : goal.float_to_bits-result
float_to_bits-result c =
    let plain : nan_bits binary32 c.args.p ≡ false
    = sym c.nan_pattern.ensures ∙ c.if-nan_pattern.false in
    number c.args.p plain

pub returns : goal.returns
unfolding widened_pattern
returns c = search rules
