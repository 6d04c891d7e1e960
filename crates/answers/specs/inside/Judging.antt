-- What the code holds of certificates while it judges them.
use Rattle.std.specs.Prelude.{◌≡◌, ◌+◌, ◌<◌, ℕ, List, Option, Result, Ok, Err, IfErr, IfSome, length, map, slice_index_or}
use Rattle.std.specs.List.{zip}
use Rattle.auction_input.specs.declared.refusal.Refusal.{Refusal}
use Rattle.auction_terms.specs.Stages.{each_in_turn}
use Rattle.auction_input.specs.declared.refusal.Refusal.TheVariants as refusal
use Rattle.auction_terms.specs.declared.bids.Choice.{Choice}
use Rattle.bid_desk.specs.Closing.{Closing}
use Rattle.bid_desk.specs.Sale.{sale_of}
use Rattle.group_compiler.specs.Compiled.{program_without}
use Rattle.optimality.specs.Answers.{IsVerdict}
use Rattle.optimality.specs.Sizes.{IsLargeAt}
use Rattle.optimality.specs.Verdict.{certificate_fault}
use Rattle.program_rows.specs.declared.certificate_fault.CertificateFault.{CertificateFault}
use Rattle.program_rows.specs.declared.certificate_fault.CertificateFaultKind.TheVariants.{TooLarge}
use Rattle.answers.specs.Certified.{Bound, bound_of, shown}
use Rattle.answers.specs.declared.certified.ClaimedBound as declared

-- the value of a bound that the code holds
abbrev pub bound_held : Closing → declared.ClaimedBound → Bound
bound_held book b = record { program = program_without book b.group.now; least = b.least; certificate = b.certificate.now }

-- what the certificates of groups are to show of allocations
abbrev pub bounds_by : Closing → List (List ℕ) → List (List Choice) → List (List ℕ) → List Bound
bounds_by book groups won certificates = map (bound_of (sale_of book)) (zip (zip groups won) certificates)

-- this is what a certificate comes to, or a limit stands in its place: want of memory, or the line of a leaf of size 2^126 or more
pub record IsJudged (book : Closing) (b : declared.ClaimedBound) (verdict : Result (Unit {0}) CertificateFault) : Type 0 where
  pub is : IsVerdict verdict (certificate_fault (program_without book b.group.now) b.least b.certificate.now)
  pub large : IfErr verdict (λ fault. fault.kind ≡ TooLarge → IsLargeAt (program_without book b.group.now) b.least b.certificate.now fault.line)

-- each certificate shows what it is to
abbrev pub AllShown : List Bound → Type 0
AllShown bounds = (all : List (Unit {0})) × (each_in_turn shown 1 bounds ≡ Ok all)

-- this is what a certificate comes to, where it was judged
abbrev pub IsJudgedIfBegun : Closing → declared.ClaimedBound → Option (Result (Unit {0}) CertificateFault) → Type 0
IsJudgedIfBegun book b verdict = IfSome verdict (IsJudged book b)

-- the first so many certificates have no fault
abbrev pub AreFine : Closing → List declared.ClaimedBound → ℕ → Type 0
AreFine book bounds count = (k : ℕ) (d : declared.ClaimedBound) → k < count → IsJudged book (slice_index_or bounds k d) (Ok tt)

-- the certificate of this number has the fault, and those before it have none
abbrev pub IsFirstFaulty : Closing → List declared.ClaimedBound → Refusal → Type 0
IsFirstFaulty book bounds (refusal.Certificate n f) =
    (before : ℕ) × (before < length bounds) × AreFine book bounds before
    × ((d : declared.ClaimedBound) → IsJudged book (slice_index_or bounds before d) (Err f)) × (n ≡ before + 1)
IsFirstFaulty book bounds r = ⊥
