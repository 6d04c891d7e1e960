-- What comes after the word of a line.
use Rattle.std.specs.Prelude.{ℕ, List, [], ◌∷◌, Result, Err}
use Rattle.program_rows.specs.Program.{Table}
use Rattle.program_rows.specs.declared.certificate_fault.CertificateFaultKind.{CertificateFaultKind}
use Rattle.program_rows.specs.declared.certificate_fault.CertificateFaultKind.TheVariants.{Fields}
use Rattle.optimality.specs.LineMeaning.{ParsedLine, parsed_bound, parsed_split}

-- what a line describes by the fields after the word `bound`
abbrev pub bound_after : Table → ℕ → List (List ℕ) → Result ParsedLine CertificateFaultKind
bound_after p depth [] = Err Fields
bound_after p depth (token ∷ fields) = parsed_bound p depth token fields

-- what a line describes by the fields after the word `split`
abbrev pub split_after : Table → List (List ℕ) → Result ParsedLine CertificateFaultKind
split_after p [] = Err Fields
split_after p (token ∷ fields) = parsed_split p token fields
