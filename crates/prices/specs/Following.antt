-- What follows from the rules, the bids and the winners alone.
use Rattle.std.specs.Prelude.{◌≡◌, ℕ, All, List}
use Rattle.auction_terms.specs.declared.bids.Choice.{Choice}
use Rattle.auction_terms.specs.Packages.{Lots}
use Rattle.auction_terms.specs.Allocations.{Book}
use Rattle.auction_terms.specs.Limits.{IsBook}
use Rattle.outcome.specs.Pricing.{in_pounds}
use Rattle.prices.specs.Alone.{AreCostsAlone}
use Rattle.prices.specs.Parts.{AreSame, AreThePrices}

-- the whole prices of the rule: whoever finds what each winner costs alone, and prices of the rule, rounds them up to the same
abbrev pub ThePricesFollow : Type 0
ThePricesFollow = (reserves : List ℕ) (lots : Lots) (book : Book) (first : List Choice) (alone alone' : ℕ → ℕ) (parts parts' : ℕ) (price price' : ℕ → ℕ)
    → IsBook lots book
    → AreCostsAlone reserves lots book first alone → AreThePrices reserves lots book first alone parts price
    → AreCostsAlone reserves lots book first alone' → AreThePrices reserves lots book first alone' parts' price'
    → All (λ c. in_pounds parts price c.bidder ≡ in_pounds parts' price' c.bidder) first

-- and the exact ones are the same amounts, whatever parts of a pound they are in
abbrev pub ExactPricesFollow : Type 0
ExactPricesFollow = (reserves : List ℕ) (lots : Lots) (book : Book) (first : List Choice) (alone alone' : ℕ → ℕ) (parts parts' : ℕ) (price price' : ℕ → ℕ)
    → IsBook lots book
    → AreCostsAlone reserves lots book first alone → AreThePrices reserves lots book first alone parts price
    → AreCostsAlone reserves lots book first alone' → AreThePrices reserves lots book first alone' parts' price'
    → AreSame first parts price parts' price'
