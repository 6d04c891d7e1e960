-- The rows of a program, each as a form over its columns.
use Rattle.std.specs.Prelude.{ℕ, suc, List, [], ◌∷◌, ◌++◌, length, map, replicate, slice_set, ℤ}
use Rattle.program_rows.specs.Program.{Table, TableColumn}
use Rattle.optimality.specs.declared.row_forms.RowForm.{RowForm}
use Rattle.optimality.specs.Certificates.{Form}
use Rattle.optimality.specs.Adding.{form_at}

-- a term more in the form of a row
abbrev pub with_term : ℕ → ℕ × ℤ → List Form → List Form
with_term row term forms = slice_set forms row (form_at forms row ++ term ∷ [])

-- the entries of the column at a place, each in the form of its row
abbrev pub with_entries : ℕ → List (ℕ × ℤ) → List Form → List Form
with_entries place [] forms = forms
with_entries place (e ∷ entries) forms = with_entries place entries (with_term e.0 (place, e.1) forms)

-- the forms of rows with the entries of the columns from a place on added, each in the form of its row
abbrev pub with_columns : ℕ → List TableColumn → List Form → List Form
with_columns place [] forms = forms
with_columns place (c ∷ columns) forms = with_columns (suc place) columns (with_entries place c.entries forms)

-- the rows of a program, each as the form of its coefficients
abbrev pub row_forms : Table → List Form
row_forms p = with_columns 0 p.columns (replicate (length p.rows) [])

-- what the code holds
abbrev pub form_held : RowForm → Form
form_held form = form.short.items ++ form.rest.items

-- the forms of all rows that the code holds
abbrev pub forms_held : List RowForm → List Form
forms_held forms = map form_held forms
