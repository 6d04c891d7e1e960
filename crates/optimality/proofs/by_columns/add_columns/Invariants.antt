use Rattle.std.proofs.Common.{◌≡◌, ℕ, drop, ◌+ℤ◌}
use Rattle.optimality.specs.Adding.{number_at}
use Rattle.optimality.specs.inside.ByEntries.{columns_given}
use Rattle.optimality.proofs.by_columns.add_columns.Given as goal

-- the sums so far, and what the columns that are left are given
abbrev pub invariant-loop-column : goal.invariant-loop-column
invariant-loop-column l = (q : ℕ) → number_at l.sums q +ℤ columns_given l.multipliers l.column (drop l.column l.program.columns) q
    ≡ number_at l.initial.sums q +ℤ columns_given l.multipliers 0 l.program.columns q
