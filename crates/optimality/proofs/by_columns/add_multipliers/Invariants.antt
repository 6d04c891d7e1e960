use Rattle.std.proofs.Common.{◌≡◌, ℕ, drop, ◌+ℤ◌}
use Rattle.optimality.specs.Certificates.{number_in}
use Rattle.optimality.specs.Adding.{number_at}
use Rattle.optimality.proofs.by_columns.add_multipliers.Given as goal

-- the multipliers so far, and those of the terms that are left
abbrev pub invariant-loop-row : goal.invariant-loop-row
invariant-loop-row l = (row : ℕ) → number_at l.multipliers row +ℤ number_in (drop l.row-index l.rows) row ≡ number_in l.rows row
