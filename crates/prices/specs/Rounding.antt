-- Prices in parts of a pound, each rounded up to whole pounds: what the winners are to pay.
use Rattle.std.specs.Prelude.{◌≡◌, ℕ, All, List}
use Rattle.auction_terms.specs.declared.bids.Choice.{Choice}
use Rattle.auction_terms.specs.Packages.{Lots}
use Rattle.auction_terms.specs.Allocations.{Book}
use Rattle.outcome.specs.Pricing.{in_pounds}
use Rattle.prices.specs.Parts.{AreThePrices, Suffice}

-- prices that suffice do so once they are rounded up, too: of whole pounds one part makes a pound
abbrev pub RoundedUpSuffice : Type 0
RoundedUpSuffice = (reserves : List ℕ) (lots : Lots) (book : Book) (first : List Choice) (parts : ℕ) (price : ℕ → ℕ)
    → Suffice reserves lots book first parts price
    → Suffice reserves lots book first 1 (in_pounds parts price)

-- the prices of the rule, rounded up to whole pounds, are the same, whoever finds them
abbrev pub RoundedUpIsOne : Type 0
RoundedUpIsOne = (reserves : List ℕ) (lots : Lots) (book : Book) (first : List Choice) (alone : ℕ → ℕ) (parts parts' : ℕ) (price price' : ℕ → ℕ)
    → AreThePrices reserves lots book first alone parts price → AreThePrices reserves lots book first alone parts' price'
    → All (λ c. in_pounds parts price c.bidder ≡ in_pounds parts' price' c.bidder) first
