-- What the names of a line are of.
use Rattle.std.specs.Prelude.{ℕ, List}
use Rattle.program_rows.specs.declared.certificate_fault.CertificateFaultKind.{CertificateFaultKind}
use Rattle.program_rows.specs.declared.certificate_fault.CertificateFaultKind.TheVariants.{UnknownColumn, UnknownRow}
use Rattle.program_rows.specs.Program.{Table}
use Rattle.program_rows.specs.ProgramNames.{column_names, row_names}
use Rattle.optimality.specs.declared.terms.Named.{Named}
use Rattle.optimality.specs.declared.terms.Named.TheVariants.{Columns, Rows}

-- the names that a line may have
abbrev pub nameable : Named → Table → List (List ℕ)
nameable Columns p = column_names p
nameable Rows p = row_names p

-- the fault of another one
abbrev pub unknown_of : Named → CertificateFaultKind
unknown_of Columns = UnknownColumn
unknown_of Rows = UnknownRow
