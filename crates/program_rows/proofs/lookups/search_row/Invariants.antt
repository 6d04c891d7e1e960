use Rattle.std.proofs.Common.{◌≡◌, ◌+◌, drop, map}
use Rattle.program_rows.specs.Parts.{shown_row}
use Rattle.program_rows.specs.Program.{TableRow}
use Rattle.program_rows.proofs.LookupFacts.{left}
use Rattle.program_rows.proofs.lookups.search_row.Given as goal

-- none of the items so far has the name
abbrev pub invariant-loop-i : goal.invariant-loop-i
invariant-loop-i l = left (λ (r : TableRow). r.name) l.name (map shown_row l.rows)
    ≡ l.i + left (λ (r : TableRow). r.name) l.name (drop l.i (map shown_row l.rows))
