-- The reduced costs of a leaf: costs, with multiples of cuts and rows added.
use Rattle.std.specs.Prelude.{ℕ, List, slice_get, ℤ, pos, ◌+ℤ◌, ◌*ℤ◌, int_lt, if◌then◌else◌}
use Rattle.std.specs.List.{zip}
use Rattle.std.specs.Option.{option_map_or}
use Rattle.program_rows.specs.declared.column.Bounds.{Bounds}
use Rattle.program_rows.specs.declared.column.Bounds.TheVariants.{ZeroOrOne, Zero, One}
use Rattle.program_rows.specs.Program.{TableRow, TableColumn}
use Rattle.program_rows.specs.Points.{coefficient_at}
use Rattle.optimality.specs.Certificates.{Form, Cut, number_in, sum_of}

-- the scaled cost of the column at a place, with what cuts and rows give it, each times its multiplier
abbrev pub reduced : ℕ → List ℕ → List Cut → Form → ℕ → TableColumn → ℤ
reduced scale ys cuts rows place c =
    pos scale *ℤ c.cost +ℤ (sum_of (λ e. pos e.0 *ℤ number_in e.1.form place) (zip ys cuts) +ℤ sum_of (λ t. t.1 *ℤ coefficient_at t.0 c) rows)

-- the least that a column of these bounds contributes
abbrev pub least_part : Bounds → ℤ → ℤ
least_part ZeroOrOne number = if int_lt number (pos 0) then number else pos 0
least_part Zero number = pos 0
least_part One number = number

-- the right side of the row at a place; 0 if there is no row
abbrev pub right_side_at : List TableRow → ℕ → ℤ
right_side_at rows place = option_map_or (λ r. r.right_side) (slice_get rows place) (pos 0)
