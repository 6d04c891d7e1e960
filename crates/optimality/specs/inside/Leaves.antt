-- How large the numbers of a leaf get.
use Rattle.std.specs.Prelude.{ℕ, ◌+◌, ◌*◌, List}
use Rattle.program_rows.specs.Program.{Table}
use Rattle.optimality.specs.Certificates.{Form}
use Rattle.optimality.specs.Sizes.{costs_size}
use Rattle.optimality.specs.declared.checker.Leaf.{Leaf}
use Rattle.optimality.specs.declared.checker.OpenSplit.{OpenSplit}
use Rattle.optimality.specs.Holding.{cuts_of}
use Rattle.optimality.specs.inside.Stopping.{given_size}

-- how large the reduced costs of a leaf get, by these rows: all costs, times the scale, and what cuts and rows give all columns
abbrev pub reduced_size : Table → List OpenSplit → Leaf → Form → ℕ
reduced_size p splits leaf rows = leaf.scale * costs_size p.columns + given_size p.columns leaf.multipliers.items (cuts_of splits) rows
