-- Comparing two programs name by name: each row and column of one is in the other.
use Rattle.std.specs.Prelude.{ℕ, Bool, true, false, ◌&&◌, List, ℤ, bytes_eq}
use Rattle.std.specs.Option.{option_map_or}
use Rattle.std.specs.List.{list_all}
use Rattle.std.specs.Ordering.{int_eq}
use Rattle.program_rows.specs.declared.row.RowKind.{RowKind}
use Rattle.program_rows.specs.declared.row.RowKind.TheVariants.{AtMost, AtLeast, Equal}
use Rattle.program_rows.specs.declared.column.Bounds.{Bounds}
use Rattle.program_rows.specs.declared.column.Bounds.TheVariants.{ZeroOrOne, Zero, One}
use Rattle.program_rows.specs.Program.{Table, TableRow, TableColumn}
use Rattle.program_rows.specs.ProgramNames.{row_name}
use Rattle.program_rows.specs.Same.{row_named, column_named, coefficient_in}

-- whether two rows are of the same kind: at most, at least or equal
abbrev pub same_kind : RowKind → RowKind → Bool
same_kind AtMost AtMost = true
same_kind AtLeast AtLeast = true
same_kind Equal Equal = true
same_kind _ _ = false

-- whether two columns may have the same values
abbrev pub same_bounds : Bounds → Bounds → Bool
same_bounds ZeroOrOne ZeroOrOne = true
same_bounds Zero Zero = true
same_bounds One One = true
same_bounds _ _ = false

-- whether two rows have the same kind and the same right side
abbrev pub row_agrees : TableRow → TableRow → Bool
row_agrees r s = same_kind r.kind s.kind && int_eq r.right_side s.right_side

-- a row of this name, kind and right side
abbrev pub row_stands : List TableRow → TableRow → Bool
row_stands rows r = option_map_or (row_agrees r) (row_named rows r.name) false

-- an entry, whose row goes by its place among `rows`, is one of the other column
abbrev pub entry_stands : List TableRow → List TableRow → TableColumn → ℕ × ℤ → Bool
entry_stands rows others d e = int_eq (coefficient_in others d (row_name rows e.0)) e.1

-- whether one column has the bounds, the cost and each entry of another, whose rows go by their places among `rows`
abbrev pub column_agrees : List TableRow → List TableRow → TableColumn → TableColumn → Bool
column_agrees rows others c d = (same_bounds c.bounds d.bounds && int_eq c.cost d.cost) && list_all (entry_stands rows others d) c.entries

-- whether there is a column with the name, the bounds, the cost and each entry of another
abbrev pub column_stands : List TableRow → List TableRow → List TableColumn → TableColumn → Bool
column_stands rows others columns c = option_map_or (column_agrees rows others c) (column_named columns c.name) false

-- each row and column of one program is one of the other
abbrev pub stands_in : Table → Table → Bool
stands_in p q = list_all (row_stands q.rows) p.rows && list_all (column_stands p.rows q.rows q.columns) p.columns

-- whether two programs have the same objective, and each row and column of either is one of the other
abbrev pub is_same_program : Table → Table → Bool
is_same_program p q = bytes_eq p.objective q.objective && (stands_in p q && stands_in q p)
