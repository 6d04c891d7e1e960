use Rattle.std.proofs.Common.{◌≡◌, ◌+◌, ◌++◌, All, drop}
use Rattle.std.specs.Prelude.{filter}
use Rattle.auction_terms.specs.Bids.{IsKeptBid}
use Rattle.auction_terms.specs.Groups.{has}
use Rattle.auction_terms.specs.Keeping.{kept_of, offers_from}
use Rattle.auction_terms.specs.inside.Keeping.{is_kept_offer}
use Rattle.auction_terms.specs.Offers.{offers}
use Rattle.auction_terms.specs.Terms.{lots_in}
use Rattle.bid_desk.specs.Closing.{book_of}
use Rattle.presolve.proofs.flags.Flags.kept.Given as goal

-- those so far, followed by those of the bidders that are left, are all
abbrev pub invariant-loop-place : goal.invariant-loop-place
invariant-loop-place l = record {
  so_far : offers l.kept.items ++ filter (is_kept_offer (lots_in l.book.rules) (book_of l.book) (has l.group))
      (offers_from (1 + l.place) (drop l.place (book_of l.book))) ≡ kept_of (lots_in l.book.rules) (book_of l.book) (has l.group);
  each : All IsKeptBid l.kept.items;
}
