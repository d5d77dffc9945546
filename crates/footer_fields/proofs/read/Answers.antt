-- `footer_fields::read` meets its contract: each field is read at its start (`after`, `later`). Assumes nothing.
use mathlib.Core.Path.{◌≡◌, refl, sym, ap, ◌∙◌}
use mathlib.Core.List.{List}
use Prim.Native.Nat.{ℕ, ◌+◌, ◌-◌}
use native.Mathlib.Omega.{arith}
use lib.ListN.{get_or}
use Rattle.order.specs.Little.{little}
use Rattle.footer.specs.declared.Checked.{Checked}
use Rattle.footer.specs.Fields.{start}
use Rattle.footer.specs.Answer.{entries, accepted_checked, accepted_footer}
use Rattle.footer.proofs.Fields.{start-domain, start-tiles, null-domain-next, after}
use Rattle.footer_fields.proofs.Fields.{start-version, dense-back, later}
use Rattle.footer_fields.proofs.read.Goals as goal

-- what was read at one place, read at another that is the same
moved : {A : Type 0} (read : ℕ → A) {x y : ℕ} → x ≡ y → {r : A} → r ≡ read x → r ≡ read y
moved read p e = e ∙ ap read p

pub returns : goal.returns
unfolding accepted_checked accepted_footer
returns c =
    let a = c.args in
    let d = a.description in
    let bytes = a.bytes.now in
    let byte : ℕ → ℕ = λ k. get_or bytes k 0 in
    let list : ℕ → List ℕ = λ k. entries bytes d.fields k in
    let number : ℕ → ℕ = λ k. little bytes k 8 in
    let e = c.requires.0 in
    let f : a.checked.domain - 2 ≡ start d bytes "dense" = ap (λ (x : Checked). x.domain - 2) e ∙ dense-back d bytes in
    let domain : a.checked.domain ≡ start d bytes "domain" = ap (λ (x : Checked). x.domain) e in
    let tiles = a.checked.domain + c.box_bytes.result in
    let g : tiles ≡ start d bytes "tiles" =
    omega (arith, domain, start-domain d bytes, start-tiles d bytes, c.box_bytes.ensures) in
    let p = after d bytes tiles d.fields g refl in
    let q = later d bytes tiles d.fields g refl in
    λ i. record {
      number = 0;
      place = 0;
      version = (c.u32_at.ensures ∙ ap (λ k. little bytes k 4) (sym (start-version d bytes))) i;
      name_size = (e i).name_size;
      dense = moved byte f c.byte_at.ensures i;
      null_domain = moved byte (ap (λ x. x + 1) f ∙ null-domain-next d bytes) c.byte_at-2.ensures i;
      domain = c.requires.1 i;
      tiles = (e i).tiles;
      last_cells = (e i).last_cells;
      timestamps = moved byte p.timestamps c.byte_at-3.ensures i;
      deletes = moved byte p.deletes c.byte_at-4.ensures i;
      file_sizes = moved list q.file-sizes c.list_at.ensures i;
      file_var_sizes = moved list q.file-var-sizes c.list_at-2.ensures i;
      file_validity_sizes = moved list q.file-validity-sizes c.list_at-3.ensures i;
      rtree = moved number p.rtree c.u64_at.ensures i;
      tile_offsets = moved list q.tile-offsets c.list_at-4.ensures i;
      var_offsets = moved list q.var-offsets c.list_at-5.ensures i;
      var_sizes = moved list q.var-sizes c.list_at-6.ensures i;
      validity = moved list q.validity c.list_at-7.ensures i;
      mins = moved list q.mins c.list_at-8.ensures i;
      maxes = moved list q.maxes c.list_at-9.ensures i;
      sums = moved list q.sums c.list_at-10.ensures i;
      null_counts = moved list q.null-counts c.list_at-11.ensures i;
      fragment = moved number q.fragment c.u64_at-2.ensures i;
      conditions = moved number q.conditions c.u64_at-3.ensures i;
      length = moved number q.footer-length c.u64_at-4.ensures i;
    }
