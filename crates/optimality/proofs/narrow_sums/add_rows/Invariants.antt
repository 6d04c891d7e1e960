use Rattle.std.proofs.Common.{◌≡◌, ℕ, drop, ◌+ℤ◌}
use Rattle.optimality.specs.Adding.{number_at}
use Rattle.optimality.specs.inside.Adding.{rows_given}
use Rattle.optimality.specs.RowForms.{forms_held}
use Rattle.optimality.proofs.narrow_sums.add_rows.Given as goal

-- the sums so far, and what the rows that are left give
abbrev pub invariant-loop-row : goal.invariant-loop-row
invariant-loop-row l = (q : ℕ) → number_at l.sums q +ℤ rows_given (drop l.row-index l.rows) (forms_held l.forms) q
    ≡ number_at l.initial.sums q +ℤ rows_given l.rows (forms_held l.forms) q
