-- `footer_fields::fields_of` meets its contract: the domain is inside the bytes of a footer that is there whole, and then
-- `read` has what it needs. Assumes nothing.
use mathlib.Core.Path.{◌≡◌, ap, ◌∙◌}
use Prim.Native.Nat.{◌+◌, ◌-◌, ◌*◌}
use native.Mathlib.Omega.{arith}
use lib.ListN.{length, take, drop}
use Rattle.description.specs.Description.{sides_of, bytes_of_box}
use Rattle.boxes.specs.Boxes.{box_of}
use Rattle.footer.specs.declared.Checked.{Checked}
use Rattle.footer.specs.Fields.{start, domain_bytes}
use Rattle.footer.specs.Answer.{accepted_checked}
use Rattle.footer.proofs.Fields.{footer-bytes, start-domain}
use Rattle.footer_fields.proofs.fields_of.Goals as goal
use Rattle.footer_fields.proofs.fields_of.Goals.{Else-checked-ne0, After-read_box-domain}

-- where the domain starts, and how far the bytes go on from there
module _ (c : Else-checked-ne0) where
  domain-starts : c.args.checked.domain ≡ start c.args.description c.args.bytes.now "domain"
  unfolding accepted_checked
  domain-starts = ap (λ (x : Checked). x.domain) (c.requires c.if-checked-ne0.false).0

  rest : c.args.checked.domain + bytes_of_box c.args.description + 50 + 88 * c.args.description.fields ≡ length c.args.bytes.now
  rest =
      let d = c.args.description in
      let bytes = c.args.bytes.now in
      omega (arith, domain-starts, (c.requires c.if-checked-ne0.false).2, footer-bytes d bytes, start-domain d bytes)

pub overflow_add-to : goal.overflow_add-to
overflow_add-to c =
    record { fits = omega (arith, rest (goal.at.overflow_add-to c).Else-checked-ne0, c.box_bytes.ensures) }

pub slice_bounds-read_box-end : goal.slice_bounds-read_box-end
slice_bounds-read_box-end c =
    omega (arith, rest (goal.at.slice_bounds-read_box-end c).Else-checked-ne0, c.box_bytes.ensures)

domain-read : (c : After-read_box-domain)
    → c.read_box-domain.result
    ≡ box_of c.args.description.kinds (sides_of c.args.description.dimensions) (domain_bytes c.args.description c.args.bytes.now)
domain-read c =
    let a = c.args in
    let d = a.description in
    let wide : a.checked.domain + c.box_bytes.result - a.checked.domain ≡ bytes_of_box d = omega (arith, c.box_bytes.ensures) in
    c.read_box-domain.ensures
    ∙ ap (λ w. box_of d.kinds (sides_of d.dimensions) (take w (drop a.checked.domain a.bytes.now))) wide
    ∙ ap (λ s. box_of d.kinds (sides_of d.dimensions) (take (bytes_of_box d) (drop s a.bytes.now)))
    (domain-starts (goal.at.After-read_box-domain c).Else-checked-ne0)

pub read-requires : goal.read-requires
read-requires c =
    let a = c.args in
    let e = (goal.at.read-requires c).Else-checked-ne0 in
    let w = c.requires c.if-checked-ne0.false in (
      w.0,
      domain-read (goal.at.read-requires c).After-read_box-domain,
      w.1,
      omega (arith, domain-starts e, start-domain a.description a.bytes.now),
      rest e,
    )
