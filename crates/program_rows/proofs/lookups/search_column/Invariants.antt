use Rattle.std.proofs.Common.{◌≡◌, ◌+◌, drop}
use Rattle.program_rows.specs.Program.{TableColumn}
use Rattle.program_rows.proofs.LookupFacts.{left}
use Rattle.program_rows.proofs.lookups.search_column.Given as goal

-- none of the items so far has the name
abbrev pub invariant-loop-i : goal.invariant-loop-i
invariant-loop-i l = left (λ (c : TableColumn). c.name) l.name l.columns ≡ l.i + left (λ (c : TableColumn). c.name) l.name (drop l.i l.columns)
