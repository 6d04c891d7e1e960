use Rattle.std.proofs.Common.{◌≡◌, [], replicate}
use Rattle.optimality.specs.RowForms.{forms_held}
use Rattle.optimality.proofs.row_forms.empty_forms.Given as goal

-- the forms so far
abbrev pub invariant-loop : goal.invariant-loop
invariant-loop l = forms_held l.forms.items ≡ replicate l.counter []
