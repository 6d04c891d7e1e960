-- Columns with other bounds.
use Rattle.std.specs.Prelude.{List, [], ◌∷◌}
use Rattle.program_rows.specs.declared.column.Bounds.{Bounds}
use Rattle.program_rows.specs.Program.{TableColumn}

-- each column with the bounds at its place
abbrev pub bounded : List TableColumn → List Bounds → List TableColumn
bounded (c ∷ columns) (b ∷ bounds) = record c { bounds = b } ∷ bounded columns bounds
bounded _ _ = []
