-- What a report looks up of a closed book.
use Rattle.std.specs.Prelude.{ℕ, ◌-◌, ◌==◌, List, [], map, slice_get, unwrap_or, if◌then◌else◌}
use Rattle.auction_terms.specs.Packages.{Lots}
use Rattle.auction_terms.specs.Terms.{lots_in}
use Rattle.auction_terms.specs.Allocations.{Book}
use Rattle.bid_desk.specs.Closing.{Closing, book_of}

-- what was for sale, to whom, and what was bid
pub record Sale : Type 0 where
  -- the names of the bidders, in the order of their numbers
  pub names : List (List ℕ)
  pub lots : Lots
  pub book : Book

-- what was for sale by the rules of a closed book, to whom, and the bids that its history leaves standing
abbrev pub sale_of : Closing → Sale
sale_of closing = record { names = map (λ bidder. bidder.name) closing.rules.bidders; lots = lots_in closing.rules; book = book_of closing }

-- the name of a bidder by its number
abbrev pub bidder_name : List (List ℕ) → ℕ → List ℕ
bidder_name names bidder = if bidder == 0 then [] else unwrap_or (slice_get names (bidder - 1)) []
