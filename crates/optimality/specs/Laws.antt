-- What follows from a certificate.
use Rattle.std.specs.Prelude.{◌≡◌, ◌↔◌, ℕ, Bool, List, None, ℤ, ◌≤ℤ◌}
use Rattle.auction_terms.specs.Packages.{Lots}
use Rattle.auction_terms.specs.Allocations.{Book}
use Rattle.program_rows.specs.Program.{Table}
use Rattle.program_rows.specs.Points.{IsPoint, objective}
use Rattle.program_rows.specs.Faithful.{IsFaithful, IsGreatest, IsLeast, back}
use Rattle.optimality.specs.Certificates.{Certificate}
use Rattle.optimality.specs.Shows.{Shows}
use Rattle.optimality.specs.CertificateText.{IsShownBy}
use Rattle.optimality.specs.Verdict.{certificate_fault}

-- no point has an objective below `least`
abbrev pub IsBound : Table → ℤ → Type 0
IsBound p least = (values : List Bool) → IsPoint p values → least ≤ℤ objective p values

-- what a certificate shows is a bound
abbrev pub ShownIsBound : Type 0
ShownIsBound = (p : Table) (least : ℤ) (certificate : Certificate) → Shows p least certificate → IsBound p least

-- values whose own objective is shown are least
abbrev pub ShownIsLeast : Type 0
ShownIsLeast = (p : Table) (values : List Bool) (certificate : Certificate) → Shows p (objective p values) certificate → IsLeast p values

-- in a faithful program a point whose own objective is shown maps back to a feasible allocation of greatest total
abbrev pub ShownIsGreatest : Type 0
ShownIsGreatest = (lots : Lots) (book : Book) (group : ℕ → Bool) (program : Table) → IsFaithful lots book group program
    → (values : List Bool) → IsPoint program values → (certificate : Certificate) → Shows program (objective program values) certificate
    → IsGreatest lots book group (back program.columns values)

-- a text has no fault if and only if it describes a certificate that shows `least`
abbrev pub FirstFaultIsExact : Type 0
FirstFaultIsExact = (p : Table) (least : ℤ) (text : List ℕ) → (certificate_fault p least text ≡ None) ↔ IsShownBy p least text
