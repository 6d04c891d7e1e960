-- True reports on what an input describes.
use Rattle.std.specs.Prelude.{◌≡◌, ℕ, List, Ok, Option}
use Rattle.auction_input.specs.Auction.{Auction}
use Rattle.auction_input.specs.Described.{Describes}
use Rattle.auction_input.specs.Input.{Input}
use Rattle.auction_input.specs.declared.request.Request.TheVariants.{Verify}
use Rattle.answers.specs.Answer.{answer}
use Rattle.answers.specs.Verified.{IsTrueReport, WritesTrueReport}

-- what `verify` answers of an input is a true report on the auction that the input describes
abbrev pub VerifiedIsTrue : Type 0
VerifiedIsTrue = (workers : ℕ) (input : Input) (out : List ℕ) → answer (Verify workers) input ≡ Ok out
    → (auction : Auction) × Describes (Verify workers) input auction × IsTrueReport auction out

-- a true report on the auction that an input describes was written, and nothing else
abbrev pub WritesTrueReportOn : ℕ → Input → Option (List ℕ) → Option (List ℕ) → Type 0
WritesTrueReportOn workers input taken taken' =
    (auction : Auction) × Describes (Verify workers) input auction × WritesTrueReport auction taken taken'
