-- The message of a fault of a certificate.
use Rattle.std.specs.Prelude.{◌++◌, ℕ, List, codes, decimal}
use Rattle.program_rows.specs.declared.certificate_fault.CertificateFaultKind.{CertificateFaultKind}
use Rattle.program_rows.specs.declared.certificate_fault.CertificateFaultKind.TheVariants as kind

-- the words printed for a fault of a certificate, by its line and its kind
abbrev pub certificate_fault_text : ℕ → CertificateFaultKind → List ℕ
certificate_fault_text line kind.TooLarge = codes "1 TooLarge at line " ++ decimal line
certificate_fault_text line kind.Beyond = codes "2 Beyond at line " ++ decimal line
certificate_fault_text line kind.Fields = codes "3 Fields at line " ++ decimal line
certificate_fault_text line kind.NumberText = codes "4 NumberText at line " ++ decimal line
certificate_fault_text line kind.NumberRange = codes "5 NumberRange at line " ++ decimal line
certificate_fault_text line kind.UnknownColumn = codes "6 UnknownColumn at line " ++ decimal line
certificate_fault_text line kind.UnknownRow = codes "7 UnknownRow at line " ++ decimal line
certificate_fault_text line kind.Sign = codes "8 Sign at line " ++ decimal line
certificate_fault_text line kind.NotShown = codes "9 NotShown at line " ++ decimal line
certificate_fault_text line kind.NoEnd = codes "10 NoEnd at line " ++ decimal line
certificate_fault_text line kind.OutOfMemory = codes "out of memory"
