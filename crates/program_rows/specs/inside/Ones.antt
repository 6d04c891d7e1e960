-- The columns at 1, by their places.
use Rattle.std.specs.Prelude.{ℕ, ◌+◌, Bool, true, false, List, [], ◌∷◌, ℤ, pos, ◌+ℤ◌, slice_get}
use Rattle.std.specs.Option.{option_map_or}
use Rattle.program_rows.specs.Program.{TableColumn}

-- the places of the values that are 1, counted from i on
abbrev pub ones_from : ℕ → List Bool → List ℕ
ones_from i [] = []
ones_from i (true ∷ values) = i ∷ ones_from (i + 1) values
ones_from i (false ∷ values) = ones_from (i + 1) values

-- the sum of what the columns at these places contribute
abbrev pub sum_at : (TableColumn → ℤ) → List TableColumn → List ℕ → ℤ
sum_at f columns [] = pos 0
sum_at f columns (i ∷ places) = option_map_or f (slice_get columns i) (pos 0) +ℤ sum_at f columns places
