-- What a selection holds, as a table.
use Rattle.std.specs.Prelude.{ℕ, ◌<◌, ⊤, ℤ, List, Option, Some, None, length, map, slice_index}
use Rattle.std.specs.List.{AllByRecursion}
use Rattle.program_rows.specs.Program.{Table, TableColumn}
use Rattle.program_rows.specs.Selections.{renumbered, selection_of}
use Rattle.program_rows.specs.declared.selection.Selected.{Selected}

-- a program, or what is selected of it
abbrev pub seen : Table → Option Selected → Table
seen p None = p
seen p (Some s) = selection_of p s.rows.items s.columns.items s.numbers.items

-- what is selected is there
abbrev pub AreThere : Table → Option Selected → Type 0
AreThere p None = ⊤
AreThere p (Some s) = AllByRecursion (λ place. place < length p.rows) s.rows.items × AllByRecursion (λ place. place < length p.columns) s.columns.items

-- a column of the program, as it is in the selection
abbrev pub seen_column : Option Selected → TableColumn → TableColumn
seen_column None c = c
seen_column (Some s) c = renumbered s.numbers.items c

-- entries, by the numbers of the program's rows if they have others now
abbrev pub seen_entries : Option (List ℕ) → List (ℕ × ℤ) → List (ℕ × ℤ)
seen_entries None entries = entries
seen_entries (Some numbers) entries = map (λ e. (slice_index numbers e.0, e.1)) entries
