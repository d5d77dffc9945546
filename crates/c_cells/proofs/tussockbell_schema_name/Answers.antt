-- `c_cells::tussockbell_schema_name` meets its contract: the library's own answer, place by place. Assumes nothing.
use Rattle.description.specs.Rules.{current}
use Rattle.footer.specs.Checks.{sparse_by}
use Rattle.c_answers.proofs.SchemaName.{named}
use Rattle.c_cells.proofs.tussockbell_schema_name.Goals as goal

pub returns-clause-places : goal.returns-clause-places
returns-clause-places c =
    (named (sparse_by current) _ _ _ c.name_places.ensures c.check-r.ensures c.describe-d.ensures).0

pub returns-clause-name : goal.returns-clause-name
returns-clause-name c =
    (named (sparse_by current) _ _ _ c.name_places.ensures c.check-r.ensures c.describe-d.ensures).1
