-- Certificates that no point but these has an objective as low as that of the first of them. Each is judged after splits, one for each of these points, whose
-- first side holds that point alone.
use Rattle.std.specs.Prelude.{◌≡◌, ◌↔◌, ℕ, suc, ◌+◌, ◌&&◌, Bool, true, false, List, [], ◌∷◌, All, length, map, reverse}
use Rattle.std.specs.Prelude.{Option, Some, None, Ok, ℤ, pos, neg_ℤ, ◌+ℤ◌, if◌then◌else◌}
use Rattle.auction_terms.specs.Lines.{lines_of}
use Rattle.program_rows.specs.declared.column.Bounds.{Bounds}
use Rattle.program_rows.specs.declared.column.Bounds.TheVariants.{ZeroOrOne}
use Rattle.program_rows.specs.Only.{AreOnlyLeast}
use Rattle.program_rows.specs.Points.{IsPoint, objective}
use Rattle.program_rows.specs.Program.{Table, TableColumn}
use Rattle.optimality.specs.Branches.{Branch, At, cuts_above}
use Rattle.optimality.specs.Certificates.{Certificate, Form}
use Rattle.optimality.specs.Lines.{certificate_lines}
use Rattle.optimality.specs.Shows.{ShowsWithin}
use Rattle.optimality.specs.Sizes.{IsLargeFrom}
use Rattle.optimality.specs.CertificateText.{TellsCertificate}
use Rattle.optimality.specs.Verdict.{fault_from}
use Rattle.program_rows.specs.declared.certificate_fault.CertificateFaultKind.{CertificateFaultKind}

-- a column that may be 0 or 1
abbrev pub is_zero_or_one : Bounds → Bool
is_zero_or_one ZeroOrOne = true
is_zero_or_one _ = false

-- such columns from a place on: those that are 1 with -1, and the others with 1
abbrev pub distance : ℕ → List TableColumn → List Bool → Form
distance place (c ∷ columns) (value ∷ values) =
    if is_zero_or_one c.bounds then (place, if value then neg_ℤ (pos 1) else pos 1) ∷ distance (suc place) columns values else distance
    (suc place) columns values
distance place columns values = []

-- how many of them are 1
abbrev pub free_ones : List TableColumn → List Bool → ℕ
free_ones (c ∷ columns) (value ∷ values) = (if is_zero_or_one c.bounds && value then 1 else 0) + free_ones columns values
free_ones columns values = 0

-- the second side of the split: all points but these values, whose sum is minus the number of ones
abbrev pub all_others : Table → List Bool → Branch
all_others p values = At true (distance 0 p.columns values) (neg_ℤ (pos (free_ones p.columns values)))

-- the splits from these points, one below the other: the first point's is at the root, so that it is the last of what is open
abbrev pub all_but : Table → List (List Bool) → List Branch
all_but p listed = reverse (map (all_others p) listed)

-- one more than the objective of the first point
abbrev pub one_above : Table → List Bool → ℤ
one_above p first = objective p first +ℤ pos 1

-- no point but the first and the others has an objective as low as the first's
abbrev pub ShowsOnly : Table → List Bool → List (List Bool) → Certificate → Type 0
ShowsOnly p first others certificate = ShowsWithin p (one_above p first) (cuts_above (all_but p (first ∷ others))) certificate

-- what such a certificate shows of points
abbrev pub ShownIsOnly : Type 0
ShownIsOnly = (p : Table) (first : List Bool) (others : List (List Bool)) (certificate : Certificate) → IsPoint p first → All (IsPoint p) others
    → ShowsOnly p first others certificate → AreOnlyLeast p first others

-- the text describes a certificate that shows it
abbrev pub IsShownOnlyBy : Table → List Bool → List (List Bool) → List ℕ → Type 0
IsShownOnlyBy p first others text =
    (certificate : Certificate) × TellsCertificate p (suc (length others)) certificate (certificate_lines (lines_of text)) []
    × ShowsOnly p first others certificate

-- the first fault of a text that is to show it
abbrev pub only_fault : Table → List Bool → List (List Bool) → List ℕ → Option (ℕ × CertificateFaultKind)
only_fault p first others text = fault_from p (one_above p first) (Ok (Some (all_but p (first ∷ others)))) 0 (lines_of text)

-- the line of this number tells a leaf of size 2^126 or more, and no line before it has a fault
abbrev pub IsLargeOnlyAt : Table → List Bool → List (List Bool) → List ℕ → ℕ → Type 0
IsLargeOnlyAt p first others text number = IsLargeFrom p (one_above p first) (Ok (Some (all_but p (first ∷ others)))) 0 (lines_of text) number

-- a text has no fault if and only if it describes a certificate that shows it
abbrev pub OnlyFaultIsExact : Type 0
OnlyFaultIsExact = (p : Table) (first : List Bool) (others : List (List Bool)) (text : List ℕ)
    → (only_fault p first others text ≡ None) ↔ IsShownOnlyBy p first others text
