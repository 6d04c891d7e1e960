use Rattle.optimality.specs.RowForms.{forms_held}
use Rattle.optimality.proofs.RowFacts.{columns-step}
use Rattle.optimality.proofs.row_forms.add_columns.Goals as goal

pub loop-column-preserved : goal.loop-column-preserved
loop-column-preserved c = columns-step c.loop-column.column c.args.program.now.columns c.entries.result (forms_held c.loop-column.forms) _ _
    c.entries.ensures c.in_ok-add_column.ensures c.loop-column.invariant
