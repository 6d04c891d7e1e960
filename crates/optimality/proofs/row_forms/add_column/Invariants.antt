use Rattle.std.proofs.Common.{◌≡◌, drop}
use Rattle.optimality.specs.RowForms.{forms_held, with_entries}
use Rattle.optimality.proofs.row_forms.add_column.Given as goal

-- the entries that are left, added to the forms so far
abbrev pub invariant-loop-i : goal.invariant-loop-i
invariant-loop-i l = with_entries l.column (drop l.i l.entries) (forms_held l.forms) ≡ with_entries l.column l.entries (forms_held l.fn.forms)
