-- What the reader answers.
use Rattle.std.specs.Prelude.{◌≡◌, ◌⊎◌, ℕ, Result, Ok, Err}
use Rattle.program_rows.specs.Program.{Table}
use Rattle.program_rows.specs.declared.mps_fault_kind.MpsFaultKind.{MpsFaultKind}
use Rattle.program_rows.specs.declared.mps_fault_kind.MpsFaultKind.TheVariants.{OutOfMemory}
use Rattle.program_rows.specs.declared.mps_fault.MpsFault.{MpsFault}

-- the program that the text means, or its first faulty line and the fault; memory that was short has no line
abbrev pub IsRead : Result Table MpsFault → Result Table (ℕ × MpsFaultKind) → Type 0
IsRead (Ok program) meant = meant ≡ Ok program
IsRead (Err fault) meant = (fault ≡ record { line = 0; kind = OutOfMemory }) ⊎ (meant ≡ Err (fault.line, fault.kind))
