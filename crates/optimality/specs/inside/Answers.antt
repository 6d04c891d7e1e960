-- What the code answers, as the definitions say it.
use Rattle.std.specs.Prelude.{◌≡◌, ℕ, Result, Ok, Err}
use Rattle.program_rows.specs.declared.certificate_fault.CertificateFaultKind.{CertificateFaultKind}
use Rattle.program_rows.specs.declared.certificate_fault.CertificateFaultKind.TheVariants.{OutOfMemory, TooLarge}
use Rattle.program_rows.specs.declared.certificate_fault.CertificateFault.{CertificateFault}
use Rattle.optimality.specs.declared.refusal.Limit.TheVariants as limits
use Rattle.optimality.specs.declared.refusal.Refusal.{Refusal}
use Rattle.optimality.specs.declared.refusal.Refusal.TheVariants.{Stopped, Fault}

-- the value, as it is seen, or the fault; where memory is short the code says nothing
abbrev pub AnswersSeen : {X Y : Type 0} → (X → Y) → Result X Refusal → Result Y CertificateFaultKind → Type 0
AnswersSeen view (Ok x) parsed = parsed ≡ Ok (view x)
AnswersSeen view (Err (Stopped limits.Memory)) parsed = Unit {0}
AnswersSeen view (Err (Stopped limits.TooLarge)) parsed = ⊥
AnswersSeen view (Err (Fault kind)) parsed = parsed ≡ Err kind

-- the value, as it is seen, or the fault; if memory is short or a number is too large, the code says nothing
abbrev pub AnswersClosed : {X Y : Type 0} → (X → Y) → Result X Refusal → Result Y CertificateFaultKind → Type 0
AnswersClosed view (Ok x) parsed = parsed ≡ Ok (view x)
AnswersClosed view (Err (Stopped limit)) parsed = Unit {0}
AnswersClosed view (Err (Fault kind)) parsed = parsed ≡ Err kind

-- the code stopped because memory was short
abbrev pub IsStopped : Refusal → Type 0
IsStopped (Stopped limits.Memory) = Unit {0}
IsStopped (Stopped limits.TooLarge) = ⊥
IsStopped (Fault kind) = ⊥

-- the fault of a line that is not taken
abbrev pub IsRefusedCertificate : ℕ → Refusal → CertificateFault → Type 0
IsRefusedCertificate line (Stopped limits.Memory) fault = fault.kind ≡ OutOfMemory
IsRefusedCertificate line (Stopped limits.TooLarge) fault = fault ≡ record { line = line; kind = TooLarge }
IsRefusedCertificate line (Fault kind) fault = fault ≡ record { line = line; kind = kind }
