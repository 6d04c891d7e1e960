use Rattle.std.proofs.Common.{length}
use Rattle.std.proofs.lemmas.List.FromFn.{length-map-range_with_len}
use Rattle.auction_terms.proofs.LotsFacts.{are_lots}
use Rattle.bid_desk.specs.Closing.{bids_in, closing, form_standing}
use Rattle.bid_desk.proofs.ClosingFacts.{IsBook-book_of}
use Rattle.bid_desk.proofs.closed.ClosedBook.rules.Goals as goal

pub returns-clause-lots : goal.returns-clause-lots
returns-clause-lots c = rw (← c.self.view_is) (are_lots c.self.inside.rules c.self.invariant.terms)

pub returns-clause-book : goal.returns-clause-book
returns-clause-book c = rw (← c.self.view_is) (IsBook-book_of (closing c.self.inside.rules c.self.inside.book) c.self.invariant.terms c.self.invariant.entries)

pub returns-clause-bidders : goal.returns-clause-bidders
returns-clause-bidders c =
    rw (← c.self.view_is) (length-map-range_with_len (λ bidder. bids_in (form_standing c.self.inside.book bidder)) 1 (length c.self.inside.rules.bidders))
