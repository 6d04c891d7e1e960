-- What a line tells, by its word and by what comes after it.
use Rattle.std.proofs.Common.{◌≡◌, ℕ, Bool, false, List, [], ◌∷◌, Result, Err, refl}
use Rattle.std.specs.Prelude.{bytes_eq, codes, if◌then◌else◌}
use Rattle.program_rows.specs.Program.{Table}
use Rattle.program_rows.specs.declared.certificate_fault.CertificateFaultKind.{CertificateFaultKind}
use Rattle.program_rows.specs.declared.certificate_fault.CertificateFaultKind.TheVariants.{Fields}
use Rattle.optimality.specs.LineMeaning.{ParsedLine, parsed_certificate_line}
use Rattle.optimality.specs.inside.LineMeaning.{bound_after, split_after}

abbrev none : Result ParsedLine CertificateFaultKind
none = Err Fields

pub line_by_word : (p : Table) (depth : ℕ) (word : List ℕ) (fs : List (List ℕ))
    → parsed_certificate_line p depth (word ∷ fs) ≡ (if bytes_eq word (codes "split") then split_after p fs else
    (if bytes_eq word (codes "bound") then bound_after p depth fs else Err Fields))
line_by_word p depth word [] = by (bytes_eq word (codes "split")) (bytes_eq word (codes "bound"))
  where
    by : (a b : Bool) → none ≡ (if a then none else (if b then none else none))
    by false false = refl
    by _ _ = refl
line_by_word p depth word (token ∷ fs) = refl
