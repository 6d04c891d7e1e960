-- Programs that are equal as maps, whatever their order.
use Rattle.std.specs.Prelude.{◌≡◌, ℕ, List, ℤ, pos, Option, find, position, option_map, bytes_eq}
use Rattle.std.specs.Option.{option_map_or}
use Rattle.program_rows.specs.declared.column.Bounds.{Bounds}
use Rattle.program_rows.specs.Program.{Table, TableRow, TableColumn}
use Rattle.program_rows.specs.Points.{coefficient_at}

-- the first row with this name, if there is one
abbrev pub row_named : List TableRow → List ℕ → Option TableRow
row_named rows name = find (λ r. bytes_eq name r.name) rows

-- the first column with this name, if there is one
abbrev pub column_named : List TableColumn → List ℕ → Option TableColumn
column_named columns name = find (λ c. bytes_eq name c.name) columns

-- the coefficient of a column in the row of this name
abbrev pub coefficient_in : List TableRow → TableColumn → List ℕ → ℤ
coefficient_in rows c row = option_map_or (λ place. coefficient_at place c) (position (λ r. bytes_eq row r.name) rows) (pos 0)

-- the coefficient of these names; it is 0 if there is no such column or row
abbrev pub coefficient_by_names : Table → List ℕ → List ℕ → ℤ
coefficient_by_names p column row = option_map_or (λ c. coefficient_in p.rows c row) (column_named p.columns column) (pos 0)

-- bounds and cost of a column
abbrev pub bounds_and_cost : TableColumn → Bounds × ℤ
bounds_and_cost c = (c.bounds, c.cost)

-- two programs are equal name by name: they have the same objective, rows, bounds, costs and coefficients
pub record IsSameProgram (p q : Table) : Type 0 where
  pub objective : p.objective ≡ q.objective
  pub rows : (name : List ℕ) → row_named p.rows name ≡ row_named q.rows name
  pub columns : (name : List ℕ) → option_map bounds_and_cost (column_named p.columns name) ≡ option_map bounds_and_cost (column_named q.columns name)
  pub coefficients : (column row : List ℕ) → coefficient_by_names p column row ≡ coefficient_by_names q column row
