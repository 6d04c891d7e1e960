-- The open splits above a line, nearest first.
use Rattle.std.specs.Prelude.{◌≡◌, ℕ, Bool, List, map, reverse, ℤ, Option, Some, None, Result, Ok, Err, if◌then◌else◌}
use Rattle.program_rows.specs.Program.{Table}
use Rattle.program_rows.specs.declared.certificate_fault.CertificateFaultKind.{CertificateFaultKind}
use Rattle.optimality.specs.declared.checker.OpenSplit.{OpenSplit}
use Rattle.optimality.specs.declared.refusal.Refusal.{Refusal}
use Rattle.optimality.specs.declared.refusal.Refusal.TheVariants.{Stopped, Fault}
use Rattle.optimality.specs.Branches.{Branch, At}
use Rattle.optimality.specs.Sizes.{IsLargeFrom}
use Rattle.optimality.specs.Verdict.{fault_from}

-- an open split that the code holds, as a branch
abbrev pub branch_of : OpenSplit → Branch
branch_of s = At s.is_high s.form.items s.most

-- the code holds the nearest last
abbrev pub branches_of : List OpenSplit → List Branch
branches_of splits = reverse (map branch_of splits)

-- none after the last subtree
abbrev pub opened : Bool → List OpenSplit → Option (List Branch)
opened is_last splits = if is_last then None else Some (branches_of splits)

-- whatever lines follow, they have the same first fault, and none has a leaf of size 2^126 by the second that has a smaller one by the first
abbrev pub GoOnAlike : Table → ℤ → Result (Option (List Branch)) CertificateFaultKind → Result (Option (List Branch)) CertificateFaultKind → Type 0
GoOnAlike p least parsed other = (place : ℕ) (lines : List (List ℕ)) → (fault_from p least parsed place lines ≡ fault_from p least other place lines)
    × ((number : ℕ) → IsLargeFrom p least other place lines number → IsLargeFrom p least parsed place lines number)

-- what is open after a line, but that the code may hold other forms which give each column the same; or the line's fault; or a limit
abbrev pub AnswersAlike : Table → ℤ → List OpenSplit → Result Bool Refusal → Result (Option (List Branch)) CertificateFaultKind → Type 0
AnswersAlike p least splits (Ok is_last) parsed = GoOnAlike p least parsed (Ok (opened is_last splits))
AnswersAlike p least splits (Err (Stopped limit)) parsed = Unit {0}
AnswersAlike p least splits (Err (Fault kind)) parsed = parsed ≡ Err kind
