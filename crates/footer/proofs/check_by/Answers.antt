-- `footer::check_by` meets its contract: where no check refuses, the domain and the tile number stand where the definition
-- has them. Assumes nothing.
use mathlib.Core.Path.{◌≡◌, refl, sym}
use Prim.Native.Nat.{◌+◌, ◌≤◌}
use native.Mathlib.Omega.{arith}
use Rattle.description.specs.Limits.{most_name}
use Rattle.description.specs.Description.{bytes_of_box}
use Rattle.footer.specs.Fields.{start}
use Rattle.footer.specs.Answer.{accepted_checked, refused_checked}
use Rattle.footer.proofs.Fields.{start-domain, start-tiles, after}
use Rattle.footer.proofs.Passed.{passed-by, checked-passed, refused-by}
use Rattle.footer.proofs.check_by.Goals as goal
use Rattle.footer.proofs.check_by.Goals.{After-u64_at-name_size}

pub returns-then-told-ne0 : goal.returns-then-told-ne0
unfolding refused_checked
returns-then-told-ne0 c =
    let a = c.args in
    let e = c.check_footer-told.ensures in
    rw e (sym (refused-by a.entry a.description a.file_size a.bytes.now (rw e at c.if-told-ne0.true)))

pub returns : goal.returns
unfolding accepted_checked
returns c =
    let a = c.args in
    let d = a.description in
    let s = a.bytes.now in
    let p : 14 + c.u64_at-name_size.result ≡ start d s "domain" = omega (arith, c.u64_at-name_size.ensures, start-domain d s) in
    let q : 14 + c.u64_at-name_size.result + c.box_bytes.result ≡ start d s "tiles" =
    omega (arith, c.u64_at-name_size.ensures, c.box_bytes.ensures, start-tiles d s) in
    rw (c.u64_at-2.ensures, c.u64_at.ensures, q, (after d s (start d s "tiles") _ refl refl).last-cells, p, c.u64_at-name_size.ensures)
    (sym (checked-passed a.entry d a.file_size s (rw c.check_footer-told.ensures at c.if-told-ne0.false)))

small : (c : After-u64_at-name_size) → (c.u64_at-name_size.result ≤ most_name) × (bytes_of_box c.args.description ≤ 64)
small c =
    let a = c.args in
    let p = passed-by a.entry a.description a.file_size a.bytes.now (rw c.check_footer-told.ensures at c.if-told-ne0.false) in
    (rw c.u64_at-name_size.ensures p.head.most-name, p.head.description.most_bytes)

pub overflow_add-domain : goal.overflow_add-domain
overflow_add-domain c = record { fits = omega (arith, small (goal.at.overflow_add-domain c).After-u64_at-name_size) }

pub overflow_add-tiles : goal.overflow_add-tiles
overflow_add-tiles c =
    record { fits = omega (arith, small (goal.at.overflow_add-tiles c).After-u64_at-name_size, c.box_bytes.ensures) }

pub overflow_add-tiles-2 : goal.overflow_add-tiles-2
overflow_add-tiles-2 c =
    record { fits = omega (arith, small (goal.at.overflow_add-tiles-2 c).After-u64_at-name_size, c.box_bytes.ensures) }
