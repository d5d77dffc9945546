-- `footer_fields::refused` meets its contract, which says of each field what the code puts there. Assumes nothing.
use Rattle.footer.specs.Answer.{refused_footer}
use Rattle.footer_fields.proofs.refused.Goals as goal

pub returns : goal.returns
unfolding refused_footer
returns c = rw c.no_box-domain.ensures
