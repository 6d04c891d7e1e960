-- What `map` and `report` print where they end well: allocations that are feasible in the auction that the input describes.
use Rattle.std.specs.Prelude.{◌≡◌, ◌-◌, ℕ, List, [], Ok, Option, slice_index_or}
use Rattle.std.specs.Io.KnownBytes.{Appends}
use Rattle.auction_input.specs.Input.{Input}
use Rattle.std.specs.List.{AllZip}
use Rattle.auction_input.specs.Auction.{Auction}
use Rattle.auction_input.specs.Described.{Describes}
use Rattle.auction_input.specs.declared.request.Request.TheVariants.{Map, Report}
use Rattle.auction_terms.specs.Allocations.{IsFeasible}
use Rattle.auction_terms.specs.Groups.{has}
use Rattle.auction_terms.specs.declared.bids.Choice.{Choice}
use Rattle.outcome.specs.Report.{allocation_text, report_text}
use Rattle.bid_desk.specs.Sale.{Sale}
use Rattle.answers.specs.Answer.{answer}

-- an allocation that is feasible with a group left out
abbrev pub IsFeasibleWithout : Sale → List ℕ → List Choice → Type 0
IsFeasibleWithout sale group a = IsFeasible sale.lots sale.book (has group) a

-- the winners without group k, who are those of a feasible allocation
pub record AreFeasibleWinners (auction : Auction) (k : ℕ) (out : List ℕ) : Type 0 where
  pub won : List Choice
  pub text : out ≡ allocation_text auction.sale won
  pub feasible : IsFeasibleWithout auction.sale (slice_index_or auction.groups (k - 1) []) won

-- what `map` answers of an input is these of the auction which the input describes
abbrev pub MappedIsFeasible : Type 0
MappedIsFeasible = (k : ℕ) (input : Input) (out : List ℕ) → answer (Map k) input ≡ Ok out
    → (auction : Auction) × Describes (Map k) input auction × AreFeasibleWinners auction k out

-- a report on a feasible allocation for each group
pub record IsFeasibleReport (auction : Auction) (out : List ℕ) : Type 0 where
  pub won : List (List Choice)
  pub text : out ≡ report_text auction.sale auction.groups won
  pub feasible : AllZip (IsFeasibleWithout auction.sale) auction.groups won

-- what `report` answers of an input is one on the auction which the input describes
abbrev pub ReportedIsFeasible : Type 0
ReportedIsFeasible = (workers : ℕ) (input : Input) (out : List ℕ) → answer (Report workers) input ≡ Ok out
    → (auction : Auction) × Describes (Report workers) input auction × IsFeasibleReport auction out

-- the winners without group k of the auction which an input describes, who are those of a feasible allocation, were written, and nothing else
abbrev pub WritesFeasibleWinnersOn : ℕ → Input → Option (List ℕ) → Option (List ℕ) → Type 0
WritesFeasibleWinnersOn k input taken taken' =
    (auction : Auction) × Describes (Map k) input auction × (out : List ℕ) × AreFeasibleWinners auction k out × Appends taken taken' out

-- a report on a feasible allocation for each group of the auction which an input describes was written, and nothing else
abbrev pub WritesFeasibleReportOn : ℕ → Input → Option (List ℕ) → Option (List ℕ) → Type 0
WritesFeasibleReportOn workers input taken taken' =
    (auction : Auction) × Describes (Report workers) input auction × (out : List ℕ) × IsFeasibleReport auction out × Appends taken taken' out
