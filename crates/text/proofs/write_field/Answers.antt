-- `text::write_field` meets its contract: counted where none of it is stored, at once where there is room, or else by way
-- of an array. Assumes nothing.
use Prim.Native.Nat.{◌≤◌}
use mathlib.Core.Path.{◌≡◌, ap, sym, ◌∙◌}
use native.Mathlib.Omega.{arith}
use mathlib.Core.List.{[], ◌∷◌}
use lib.ListN.{length, take, length-append}
use Rattle.decimal.specs.Decimal.{decimal}
use Rattle.decimal.proofs.Written.{twenty-digits}
use Rattle.text.specs.Write.{field}
use Rattle.text.proofs.Writing.{seen-sets, seen-past, field-short, stored_there, stored-read}
use Rattle.text.proofs.write_field.Goals as goal

pub overflow_add-result : goal.overflow_add-result
overflow_add-result c = omega (arith, c.digits.ensures, twenty-digits c.args.n c.ranges.n.fits)

pub returns-then-out-place : goal.returns-then-out-place
returns-then-out-place c =
    let x = c.args in (
      omega (arith, c.digits.ensures, length-append (decimal x.n) (x.end ∷ [])),
      seen-past x.from x.out.now x.at (field x.n x.end) (omega (arith, c.saturating_sub-place.ensures)),
    )

pub returns-then-out-place-ge21 : goal.returns-then-out-place-ge21
returns-then-out-place-ge21 c =
    let p = c in
    let x = p.args in (
      p.put_field.ensures.0,
      p.put_field.ensures.1 ∙ (rw (← c.saturating_sub-place.ensures) at (seen-sets x.from x.out.now x.at (field x.n x.end) (omega arith))),
    )

pub slice_bounds-bytes-end : goal.slice_bounds-bytes-end
slice_bounds-bytes-end c =
    let size : c.put_field-count.result ≤ length c.put_field-count.new.out
    = let x = c.args in
    stored_there (field x.n x.end) _ (omega (arith, field-short x.n x.end (omega arith))) c.put_field-count.ensures.0 c.put_field-count.ensures.1 in
    size

pub slice_bounds-write-end : goal.slice_bounds-write-end
slice_bounds-write-end c =
    let bytes : take c.put_field-count.result c.put_field-count.new.out ≡ field c.args.n c.args.end
    = let x = c.args in
    stored-read (field x.n x.end) _ (omega (arith, field-short x.n x.end (omega arith))) c.put_field-count.ensures.0 c.put_field-count.ensures.1 in
    c.put_field-count.ensures.0 ∙ sym (ap length (bytes))

pub returns : goal.returns
returns c =
    let bytes : take c.put_field-count.result c.put_field-count.new.out ≡ field c.args.n c.args.end
    = let x = c.args in
    stored-read (field x.n x.end) _ (omega (arith, field-short x.n x.end (omega arith))) c.put_field-count.ensures.0 c.put_field-count.ensures.1 in
    let w = c in
    let p = w in
    (w.write.ensures.0 ∙ ap length (bytes), w.write.ensures.1 ∙ rw (bytes))
