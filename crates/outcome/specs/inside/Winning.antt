-- Choices, one bidder after the other.
use Rattle.std.specs.Prelude.{◌==◌, ℕ, List, filter, flat_map}
use Rattle.auction_terms.specs.declared.bids.Choice.{Choice}

-- the choices of these bidders
abbrev pub by_bidder : List ℕ → List Choice → List Choice
by_bidder bidders choices = flat_map (λ b. filter (λ c. c.bidder == b) choices) bidders
