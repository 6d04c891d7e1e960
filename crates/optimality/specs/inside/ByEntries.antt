-- What rows give the columns, one after the other.
use Rattle.std.specs.Prelude.{ℕ, suc, List, [], ◌∷◌, ℤ, pos, ◌+ℤ◌, ◌*ℤ◌}
use Rattle.program_rows.specs.Program.{TableColumn}
use Rattle.optimality.specs.Certificates.{Form, sum_of}
use Rattle.optimality.specs.Adding.{at_place, number_at}

-- the entries of a column, each times the multiplier of its row
abbrev pub entries_given : List ℤ → Form → ℤ
entries_given multipliers entries = sum_of (λ e. number_at multipliers e.0 *ℤ e.1) entries

-- what the columns from a place on are given by their entries, each entry times the multiplier of its row, at the place of its column
abbrev pub columns_given : List ℤ → ℕ → List TableColumn → ℕ → ℤ
columns_given multipliers place [] q = pos 0
columns_given multipliers place (c ∷ columns) q = at_place place (entries_given multipliers c.entries) q +ℤ columns_given multipliers (suc place) columns q
