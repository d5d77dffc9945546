-- `c_dense::tussockbell_dense_schema_name` meets its contract: the library's own answer, place by place. Assumes nothing.
use Rattle.footer.specs.Checks.{dense_entry}
use Rattle.c_answers.proofs.SchemaName.{named}
use Rattle.c_dense.proofs.tussockbell_dense_schema_name.Goals as goal

pub returns-clause-places : goal.returns-clause-places
returns-clause-places c =
    let told = named dense_entry _ _ _ c.name_places.ensures c.check_dense-r.ensures c.describe-d.ensures in
    told.0

pub returns-clause-name : goal.returns-clause-name
returns-clause-name c =
    let told = named dense_entry _ _ _ c.name_places.ensures c.check_dense-r.ensures c.describe-d.ensures in
    told.1
