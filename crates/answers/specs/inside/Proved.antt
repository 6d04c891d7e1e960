-- What the code holds of an auction that is verified, and why it holds nothing.
use Rattle.std.specs.Prelude.{◌⊎◌, ℕ, List}
use Rattle.answers.specs.Answer.{shown_outcome}
use Rattle.answers.specs.Exact.{IsBeyondSums}
use Rattle.answers.specs.declared.commands.verify.Proved.{Proved}
use Rattle.auction_input.specs.Auction.{Auction}
use Rattle.auction_input.specs.Refused.{Refuses}
use Rattle.auction_input.specs.declared.auction.Auction as declared
use Rattle.auction_input.specs.declared.refusal.Refusal.{Refusal}
use Rattle.bid_desk.specs.Sale.{sale_of}
use Rattle.outcome.specs.Outcome.{Outcome, outcome_report}

-- what it shows
abbrev pub outcome_held : Proved → Outcome
outcome_held proved = record { won = proved.won.items; pricing = proved.pricing; others = proved.others }

-- its report
abbrev pub proved_text : declared.Auction → Proved → List ℕ
proved_text auction proved = outcome_report (sale_of auction.book) auction.groups (outcome_held proved)

-- it shows nothing, or a text isn't judged
abbrev pub IsUnproved : Auction → Refusal → Type 0
IsUnproved auction r = Refuses (shown_outcome auction) r ⊎ IsBeyondSums auction r
