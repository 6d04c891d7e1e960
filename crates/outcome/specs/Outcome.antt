-- What solutions, certificates, claims and prices show of an auction, and how it is reported in words.
use Rattle.std.specs.Prelude.{◌++◌, ℕ, List, [], Option, slice_index_or}
use Rattle.auction_terms.specs.declared.bids.Choice.{Choice}
use Rattle.bid_desk.specs.Sale.{Sale}
use Rattle.outcome.specs.Others.{Others, others_text}
use Rattle.outcome.specs.Pricing.{Priced, pricing_text}
use Rattle.outcome.specs.Report.{report_text}

-- an allocation for each group, the first of them for the empty group; what the winners pay, if there are prices; and what is known of other awards
pub record Outcome : Type 0 where
  pub won : List (List Choice)
  pub pricing : Option Priced
  pub others : Others

-- the report on the groups, then what the winners pay, then what is known of other awards
abbrev pub outcome_report : Sale → List (List ℕ) → Outcome → List ℕ
outcome_report sale groups o = report_text sale groups o.won ++ (pricing_text sale (slice_index_or o.won 0 []) o.pricing ++ others_text sale o.others)
