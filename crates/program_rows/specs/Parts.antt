-- What a `Program` is made of, as a table.
use Rattle.std.specs.Prelude.{◌≢◌, ℕ, ◌<◌, ◌≤◌, List, [], ◌∷◌, length, map, ℤ, pos, bytes_eq}
use Rattle.std.specs.List.{AllByRecursion, IsDistinct}
use Rattle.program_rows.specs.declared.row.Row.{Row}
use Rattle.program_rows.specs.declared.column.Column.{Column}
use Rattle.program_rows.specs.declared.program.ProgramParts.{ProgramParts}
use Rattle.program_rows.specs.Program.{Table, TableRow, TableColumn}

-- a row that the code holds, as contracts see it
abbrev pub shown_row : Row → TableRow
shown_row r = record { name = r.name.items; kind = r.kind; right_side = r.right_side }

-- a column that the code holds, as contracts see it
abbrev pub shown_column : Column → TableColumn
shown_column c = record { name = c.name.now; bounds = c.bounds; cost = c.cost; entries = c.entries.now }

-- the program that is made of these parts, as contracts see it
abbrev pub table_of : ProgramParts → Table
table_of p = record { objective = p.objective_name.items; rows = map shown_row p.rows.items; columns = p.columns }

-- printable ASCII without white space
abbrev pub IsName : List ℕ → Type 0
IsName name = (0 < length name) × AllByRecursion (λ b. (33 ≤ b) × (b ≤ 126)) name

-- no two are the same
abbrev pub AreDistinct : List (List ℕ) → Type 0
AreDistinct names = IsDistinct bytes_eq names

-- entries are in row order, and none is 0
abbrev pub AreEntries : ℕ → List (ℕ × ℤ) → Type 0
AreEntries rows [] = Unit {0}
AreEntries rows (e ∷ entries) = (e.0 < rows) × (e.1 ≢ pos 0) × AllByRecursion (λ later. e.0 < later.0) entries × AreEntries rows entries

-- a program is well formed: its rows, and its columns, have names that differ, and each column's coefficients are in row order, none of them 0
pub record IsProgram (p : Table) : Type 0 where
  pub row_names : AllByRecursion IsName (p.objective ∷ map (λ r. r.name) p.rows)
  pub rows_differ : AreDistinct (p.objective ∷ map (λ r. r.name) p.rows)
  pub column_names : AllByRecursion IsName (map (λ c. c.name) p.columns)
  pub columns_differ : AreDistinct (map (λ c. c.name) p.columns)
  pub entries : AllByRecursion (λ c. AreEntries (length p.rows) c.entries) p.columns
