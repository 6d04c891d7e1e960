use Rattle.std.proofs.Common.{◌≡◌, ◌+◌, drop}
use Rattle.program_rows.specs.Program.{TableColumn}
use Rattle.program_rows.proofs.LookupFacts.{left}
use Rattle.optimality.proofs.terms.search.Given as goal

-- none of the columns so far has the name
abbrev pub invariant-loop-column : goal.invariant-loop-column
invariant-loop-column l = left (λ (c : TableColumn). c.name) l.name l.program.columns
    ≡ l.column + left (λ (c : TableColumn). c.name) l.name (drop l.column l.program.columns)
