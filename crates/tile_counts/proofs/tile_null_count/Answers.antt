-- `tile_counts::tile_null_count` meets its contract: what `sum_at` answers for as many tiles as the check does. Assumes
-- nothing.
use mathlib.Core.Path.{ap, ◌∙◌}
use Rattle.footer.specs.Checks.{footer_refusal}
use Rattle.footer.specs.Answer.{checked_answer}
use Rattle.tile_metadata.specs.declared.TwoBodies.{TwoBodies}
use Rattle.tile_metadata.specs.Bodies.{value_of}
use Rattle.tile_counts.specs.Counts.{null_counts_refusal}
use Rattle.tile_metadata.proofs.Asked.{two-asked, no_value}
use Rattle.tile_counts.proofs.tile_null_count.Goals as goal

pub returns : goal.returns
returns c =
    let a = c.args in
    let told = checked_answer a.description a.file_size a.footer.now in
    c.sum_at.ensures
    ∙ ap (λ (r : TwoBodies). value_of 8 r.tiles a.body.now a.i) c.open_null_counts-counts.ensures
    ∙ two-asked (λ n. value_of 8 n a.body.now a.i) (no_value 8 a.body.now a.i) told.tiles
    (footer_refusal a.description a.file_size a.footer.now) (null_counts_refusal a.description a.file_size a.footer.now a.body.now)
