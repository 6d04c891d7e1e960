-- Columns and programs with other costs.
use Rattle.std.specs.Prelude.{ℤ, List, [], ◌∷◌}
use Rattle.program_rows.specs.Program.{Table, TableColumn}

-- each column with the cost at its place
abbrev pub costed : List TableColumn → List ℤ → List TableColumn
costed (c ∷ columns) (cost ∷ costs) = record c { cost = cost } ∷ costed columns costs
costed _ _ = []

-- a program whose columns have these costs instead, in their order
abbrev pub costed_program : Table → List ℤ → Table
costed_program p costs = record p { columns = costed p.columns costs }
