-- A 0-1 program: rows with a right side, and columns with bounds, a cost and entries.
use Rattle.std.specs.Prelude.{ℕ, List, ℤ}
use Rattle.program_rows.specs.declared.row.RowKind.{RowKind}
use Rattle.program_rows.specs.declared.column.Bounds.{Bounds}

-- a row of a program: its name, whether its sum is to be at most, at least or equal to its right side, and that right side
pub record TableRow : Type 0 where
  pub name : List ℕ
  pub kind : RowKind
  pub right_side : ℤ

-- an entry is the place of a row and a coefficient
pub record TableColumn : Type 0 where
  pub name : List ℕ
  pub bounds : Bounds
  pub cost : ℤ
  pub entries : List (ℕ × ℤ)

-- a 0-1 program: the name of its objective, its rows and its columns
pub record Table : Type 0 where
  pub objective : List ℕ
  pub rows : List TableRow
  pub columns : List TableColumn
