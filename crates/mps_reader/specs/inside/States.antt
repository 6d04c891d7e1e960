-- The values that a column may take.
use Rattle.std.specs.Prelude.{Bool, true, false, not, ◌&&◌, ◌||◌, Option, Some, None, if◌then◌else◌}
use Rattle.program_rows.specs.declared.column.Bounds.{Bounds}
use Rattle.program_rows.specs.declared.column.Bounds.TheVariants.{ZeroOrOne, Zero, One}
use Rattle.mps_reader.specs.declared.tables.ColumnState.{ColumnState}

-- whether the lower bound of a column is at most its upper one, where true is 1; if it has no upper one it isn't
abbrev pub below_or_equal : Option Bool → Bool → Bool
below_or_equal None lower = false
below_or_equal (Some upper) lower = upper || not lower

-- an integer with an upper bound that isn't below its lower one
abbrev pub is_binary_state : ColumnState → Bool
is_binary_state s = s.is_integer && below_or_equal s.upper s.lower

-- the values that a column with a lower bound of 0 may take, by its upper bound; both if it has none
abbrev pub upper_bounds : Option Bool → Bounds
upper_bounds None = ZeroOrOne
upper_bounds (Some true) = ZeroOrOne
upper_bounds (Some false) = Zero

-- the values that a column may take, by its lower and its upper bound
abbrev pub state_bounds : ColumnState → Bounds
state_bounds s = if s.lower then One else upper_bounds s.upper
