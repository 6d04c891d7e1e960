-- What an auction that is read was made of: a legal, closed round in which its forms were submitted.
use Rattle.std.specs.Prelude.{◌≡◌}
use Rattle.auction_input.specs.Auction.{Auction}
use Rattle.auction_input.specs.Described.{Describes}
use Rattle.auction_input.specs.Input.{Input}
use Rattle.auction_input.specs.Settled.{HoldsForms}
use Rattle.auction_input.specs.declared.request.Request.{Request}
use Rattle.bid_desk.specs.Closing.{Closing, IsClosing}
use Rattle.bid_desk.specs.Sale.{sale_of}

-- an input describes this auction, whose rules and bids are those of the book that a legal, closed round over its forms leaves
pub record IsSold (asked : Request) (input : Input) (auction : Auction) : Type 0 where
  pub described : Describes asked input auction
  pub book : Closing
  pub closed : IsClosing book
  pub holds : HoldsForms input book
  pub rules_are : auction.rules ≡ book.rules
  pub sale_is : auction.sale ≡ sale_of book
