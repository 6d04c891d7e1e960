-- Bids with their numbers, and lists of kept bids.
use Rattle.std.specs.Prelude.{◌≡◌, ◌≤◌, ◌<◌, ◌⊎◌, List, All, AllPairs}
use Rattle.auction_terms.specs.Packages.{IsPackage}
use Rattle.auction_terms.specs.declared.bids.KeptBid.{KeptBid}
use Rattle.auction_terms.specs.declared.limits.TheConstants.{GREATEST_AMOUNT, MOST_BIDDERS, MOST_BIDS}

-- a bid with its numbers, within the limits
pub record IsKeptBid (kept : KeptBid) : Type 0 where
  pub some_bidder : 1 ≤ kept.bidder
  pub bidders : kept.bidder ≤ MOST_BIDDERS
  pub some_bid : 1 ≤ kept.bid
  pub bids : kept.bid ≤ MOST_BIDS
  pub quantities : IsPackage kept.offer.now.package
  pub some_amount : 1 ≤ kept.offer.now.amount
  pub amounts : kept.offer.now.amount ≤ GREATEST_AMOUNT

-- an earlier bidder, or the same with an earlier bid
abbrev pub Precedes : KeptBid → KeptBid → Type 0
Precedes a b = (a.bidder < b.bidder) ⊎ ((a.bidder ≡ b.bidder) × (a.bid < b.bid))

-- kept bids in rising order of bidder, then bid
pub record AreKept (bids : List KeptBid) : Type 0 where
  pub each : All IsKeptBid bids
  pub rising : AllPairs Precedes bids
