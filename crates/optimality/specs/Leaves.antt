-- What the code finds of a leaf, below the splits that are open.
use Rattle.std.specs.Prelude.{List, ℤ}
use Rattle.program_rows.specs.Program.{Table}
use Rattle.optimality.specs.Shows.{leaf_value}
use Rattle.optimality.specs.declared.checker.Leaf.{Leaf}
use Rattle.optimality.specs.declared.checker.OpenSplit.{OpenSplit}
use Rattle.optimality.specs.Holding.{cuts_of}

-- the value of a leaf, with the cuts of the open splits
abbrev pub value_of : Table → List OpenSplit → Leaf → ℤ
value_of p splits leaf = leaf_value p (cuts_of splits) leaf.scale leaf.multipliers.items leaf.rows.items
