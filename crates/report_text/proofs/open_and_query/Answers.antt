-- `report_text::open_and_query` meets its contract: the first that refuses is the outcome, or else the listing. Assumes nothing.
use Rattle.std.proofs.Common.{◌≡◌, refl, ◌∙◌, Ok, Err}
use Rattle.std.proofs.lemmas.Result.{err_from_is_err_and}
use Rattle.answers.proofs.Told.{refuses}
use Rattle.lists.specs.Offsets.{told_tiles}
use Rattle.query.specs.Query.{query_buffer}
use Rattle.report_text.specs.Text.{opened, answered, offsets_listed}
use Rattle.report_text.proofs.Outcomes.{renders-open, renders-offsets, renders-query, renders-listing}
use Rattle.report_text.proofs.open_and_query.Goals as goal

pub returns-in_err-pass : goal.returns-in_err-pass
returns-in_err-pass c =
    let p = err_from_is_err_and c.from_residual.result c.from_residual.ensures.1 in
    let x = c.args in
    rw (p.1, p.2) (renders-open x.asked x.footer.now x.tree.now x.offsets.now c.open-opened.ensures
    x.tiles.now c.in_err-pass.ensures.err)

pub returns-in_err-open_offsets : goal.returns-in_err-open_offsets
unfolding told_tiles
returns-in_err-open_offsets c =
    let p = err_from_is_err_and c.from_residual-in_err-open_offsets.result c.from_residual-in_err-open_offsets.ensures.1 in
    let lists : told_tiles (Err c.in_err-open_offsets.field-0.0) ≡ offsets_listed c.args.asked c.args.footer.now c.args.tree.now c.args.offsets.now =
    c.in_err-open_offsets.ensures.answer ∙ rw c.open-opened.ensures in
    let x = c.args in
    rw p.1 (renders-offsets x.asked x.footer.now x.tree.now x.offsets.now c.open-opened.ensures
    c.in_ok-pass.ensures.ok lists x.tiles.now (refuses c.in_err-open_offsets.field-0.0, p.2))

pub returns-in_err-pass-2 : goal.returns-in_err-pass-2
unfolding told_tiles
returns-in_err-pass-2 c =
    let p = err_from_is_err_and c.from_residual-in_err-pass-2.result c.from_residual-in_err-pass-2.ensures.1 in
    let lists : told_tiles (Ok c.in_ok-open_offsets.field-0) ≡ offsets_listed c.args.asked c.args.footer.now c.args.tree.now c.args.offsets.now =
    c.in_ok-open_offsets.ensures.answer ∙ rw c.open-opened.ensures in
    let answers : c.query-answer.result ≡ answered c.args.asked c.args.footer.now c.args.tree.now =
    c.query-answer.ensures.answer ∙ rw c.open-opened.ensures in
    let x = c.args in
    rw (p.1, p.2) (renders-query x.asked x.footer.now x.tree.now x.offsets.now c.open-opened.ensures
    c.in_ok-pass.ensures.ok lists refl answers _ c.in_err-pass-2.ensures.err)

pub returns : goal.returns
unfolding told_tiles
returns c =
    let lists : told_tiles (Ok c.in_ok-open_offsets.field-0) ≡ offsets_listed c.args.asked c.args.footer.now c.args.tree.now c.args.offsets.now =
    c.in_ok-open_offsets.ensures.answer ∙ rw c.open-opened.ensures in
    let answers : c.query-answer.result ≡ answered c.args.asked c.args.footer.now c.args.tree.now =
    c.query-answer.ensures.answer ∙ rw c.open-opened.ensures in
    let leaves : c.query-answer.new.out ≡ query_buffer c.args.asked.description (opened c.args.asked c.args.footer.now c.args.tree.now).tiles c.args.tree.now c.args.asked.window c.args.tiles.now =
    c.query-answer.ensures.buffer ∙ rw c.open-opened.ensures in
    let x = c.args in
    renders-listing x.asked x.footer.now x.tree.now x.offsets.now c.open-opened.ensures
    c.in_ok-pass.ensures.ok lists refl answers c.in_ok-pass-2.ensures.ok
    x.tiles.now _ c.requires.0 c.requires.1 leaves (rw (c.check-checked.ensures, answers, c.open-opened.ensures))
