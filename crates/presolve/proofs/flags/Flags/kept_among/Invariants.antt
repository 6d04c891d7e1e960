use Rattle.std.proofs.Common.{◌≡◌, All, take}
use Rattle.auction_terms.specs.Bids.{IsKeptBid}
use Rattle.auction_terms.specs.Groups.{has}
use Rattle.auction_terms.specs.Offers.{offers}
use Rattle.auction_terms.specs.Terms.{lots_in}
use Rattle.bid_desk.specs.Closing.{book_of}
use Rattle.presolve.specs.Flags.{kept_among}
use Rattle.presolve.proofs.flags.Flags.kept_among.Given as goal

-- those so far are the kept ones among the first choices
abbrev pub invariant-loop-place : goal.invariant-loop-place
invariant-loop-place l = record {
  so_far : offers l.kept.items ≡ kept_among (lots_in l.book.rules) (book_of l.book) (has l.group) (take l.place l.sorted.items);
  each : All IsKeptBid l.kept.items;
}
