use Rattle.std.proofs.Common.{◌≡◌, drop}
use Rattle.optimality.specs.RowForms.{forms_held, with_columns}
use Rattle.optimality.proofs.row_forms.add_columns.Given as goal

-- the columns that are left, added to the forms so far
abbrev pub invariant-loop-column : goal.invariant-loop-column
invariant-loop-column l =
    with_columns l.column (drop l.column l.program.columns) (forms_held l.forms) ≡ with_columns 0 l.program.columns (forms_held l.fn.forms)
