-- What a certificate is checked against.
use Rattle.std.specs.Prelude.{◌≡◌, IfSome}
use Rattle.optimality.specs.declared.checker.Checker.{Checker}
use Rattle.optimality.specs.declared.row_forms.RowForms.{RowForms}
use Rattle.auction_terms.specs.Lines.{bytes_of}
use Rattle.optimality.specs.Adding.{least_alone}
use Rattle.optimality.specs.RowForms.{forms_held, row_forms}
use Rattle.program_rows.specs.Program.{Table}
use Rattle.program_rows.specs.ProgramNames.{row_names}

-- the forms of rows, and what the costs alone come to, are those of the program
pub record AreRowsOf (p : Table) (rows : RowForms) : Type 0 where
  pub forms : forms_held rows.forms.items ≡ row_forms p
  pub alone : rows.alone ≡ least_alone p.columns

-- a checker is ready for its program: it has the names of the program's rows, and if it holds forms, those of the program's rows
pub record IsPrepared (c : Checker) : Type 0 where
  pub rows : bytes_of c.rows.keys ≡ row_names c.program.now
  pub forms : IfSome c.row_forms (λ rows. AreRowsOf c.program.now rows)
