-- What is claimed of other awards after the solutions and certificates of the groups: ties, and that there is no other award.
use Rattle.std.specs.Prelude.{◌≡◌, ◌+◌, ◌∷◌, ◌++◌, ℕ, Bool, List, [], Option, None, Some, Result, Ok, if◌then◌else◌, length, map, nat_le, slice_get, slice_index_or}
use Rattle.std.specs.Option.{option_map, option_map_or}
use Rattle.auction_input.specs.Auction.{Auction}
use Rattle.auction_input.specs.PartCounts.{claim_wants, numbers_of, refused_unless}
use Rattle.auction_input.specs.declared.refusal.Refusal.TheVariants as refusal
use Rattle.auction_input.specs.declared.refusal.Refusal.{Refusal}
use Rattle.auction_input.specs.declared.tie_fault.TieFault.TheVariants as tie
use Rattle.auction_input.specs.declared.tie_fault.TieFault.{TieFault}
use Rattle.auction_terms.specs.Allocations.{total}
use Rattle.auction_terms.specs.FirstFault.{first_failed}
use Rattle.auction_terms.specs.Stages.{and_then, refused_as, unless}
use Rattle.auction_terms.specs.declared.bids.Choice.{Choice}
use Rattle.bid_desk.specs.Sale.{Sale}
use Rattle.optimality.specs.OnlyPoints.{IsLargeOnlyAt, only_fault}
use Rattle.outcome.specs.Others.{Others, others_of}
use Rattle.outcome.specs.PointAllocation.{allocation_of}
use Rattle.outcome.specs.Solution.{solution}
use Rattle.outcome.specs.Ties.{same_choices}
use Rattle.outcome.specs.declared.others.Further.TheVariants as further
use Rattle.program_rows.specs.Program.{Table}
use Rattle.program_rows.specs.ProgramNames.{row_name}
use Rattle.program_rows.specs.declared.certificate_fault.CertificateFaultKind.TheVariants as certificate
use Rattle.program_rows.specs.declared.certificate_fault.CertificateFaultKind.{CertificateFaultKind}
use Rattle.program_rows.specs.declared.solution_fault.SolutionFault.TheVariants as fault
use Rattle.program_rows.specs.declared.solution_fault.SolutionFault.{SolutionFault}
use Rattle.answers.specs.Programs.{program_for}
use Rattle.answers.specs.SolutionWinners.{solution_refused}

-- the program with nobody left out
abbrev pub first_program : Auction → Table
first_program auction = program_for auction.sale []

-- one text at most that shows that there is no other award, and no more ties than may be
abbrev pub claim_counts : Auction → List (Bool × Refusal)
claim_counts auction = refused_unless (claim_wants (numbers_of auction))

-- ---- a tie

-- its number, if there are several
abbrev pub tie_number : Auction → ℕ → Option ℕ
tie_number auction number = if nat_le (length auction.ties) 1 then None else Some number

-- a fault of its text; a bound or a row that is broken is reported by its name
abbrev pub tie_fault : Table → SolutionFault → TieFault
tie_fault p (fault.BoundBroken column) = tie.BoundBroken (option_map_or (λ c. c.name) (slice_get p.columns column) [])
tie_fault p (fault.RowBroken row) = tie.RowBroken (row_name p.rows row)
tie_fault p f = tie.Solution f

-- the number of the first of these ties, numbered from a number on, that has the winners of an award
abbrev pub same_tie : ℕ → List (List Choice) → List Choice → Option ℕ
same_tie number [] award = None
same_tie number (a ∷ ties) award = if same_choices a award then Some number else same_tie (number + 1) ties award

-- the winners of group 1, or the first of the ties before, if they are the same
abbrev pub same_winners : List Choice → List (List Choice) → List Choice → Option TieFault
same_winners first before award =
    if same_choices first award then Some tie.SameAsFirst else option_map tie.SameAsTie (same_tie 1 before award)

-- why an award doesn't tie with the first: its total is lower, or its winners are those of the first or of a tie before
abbrev pub award_fault : Sale → List Choice → List (List Choice) → List Choice → Option TieFault
award_fault sale first before award =
    if nat_le (total sale.lots sale.book first) (total sale.lots sale.book award) then same_winners first before award else Some tie.LowerTotal

-- the point of a tie, after ties that win these
abbrev pub parsed_tie : Auction → List Choice → List (List Choice) → List ℕ → Result (List Bool) Refusal
parsed_tie auction first before text =
    let p : Table = first_program auction in
    let refused : TieFault → Refusal = λ f. refusal.Tie (tie_number auction (length before + 1)) f in
    and_then (refused_as (λ f. refused (tie_fault p f)) (solution p text)) (λ point.
    unless (option_map refused (award_fault auction.sale first before (allocation_of p point))) (Ok point))

-- the points of ties, one after the other
abbrev pub parsed_ties : Auction → List Choice → List (List Choice) → List (List ℕ) → Result (List (List Bool)) Refusal
parsed_ties auction first before [] = Ok []
parsed_ties auction first before (text ∷ texts) =
    and_then (parsed_tie auction first before text) (λ point.
    and_then (parsed_ties auction first (before ++ allocation_of (first_program auction) point ∷ []) texts) (λ points.
    Ok (point ∷ points)))

-- ---- no other award

-- the refusal of the text that is to show that there is no other award, by the line of its first fault and what is wrong there
abbrev pub unique_refused : ℕ × CertificateFaultKind → Refusal
unique_refused f = refusal.Unique (record { line = f.0; kind = f.1 })

-- what is known of other awards, where these are the points of the ties: just these, or by a certificate that no other point of the program has
-- an objective as low as the point of the first solution, all that there are
abbrev pub known_others : Auction → List Choice → List (List Bool) → List (List ℕ) → Result Others Refusal
known_others auction first points [] = Ok (record { awards = map (allocation_of (first_program auction)) points; further = further.Unknown })
known_others auction first points (text ∷ more) =
    let p : Table = first_program auction in
    and_then (refused_as (solution_refused p 1) (solution p (slice_index_or auction.solutions 0 []))) (λ point.
    unless (option_map unique_refused (only_fault p point points text))
    (Ok (others_of auction.sale.lots auction.sale.book (first ∷ map (allocation_of p) points))))

-- what comes of the claims, where this is won with nobody left out
abbrev pub parsed_claims : Auction → List Choice → Result Others Refusal
parsed_claims auction first =
    unless (first_failed (claim_counts auction)) (
    and_then (parsed_ties auction first [] auction.ties) (λ points. known_others auction first points auction.uniques))

-- after ties that are taken the certificate isn't judged, since the leaf at this line has a size of 2^126 or more
pub record IsTooWideClaim (auction : Auction) (first : List Choice) (r : Refusal) : Type 0 where
  pub text : List ℕ
  pub point : List Bool
  pub points : List (List Bool)
  pub line : ℕ
  pub counted : first_failed (claim_counts auction) ≡ None
  pub one : auction.uniques ≡ text ∷ []
  pub tied : parsed_ties auction first [] auction.ties ≡ Ok points
  pub solved : solution (first_program auction) (slice_index_or auction.solutions 0 []) ≡ Ok point
  pub wide : IsLargeOnlyAt (first_program auction) point points text line
  pub is : r ≡ refusal.Unique (record { line = line; kind = certificate.TooLarge })
