use Rattle.std.proofs.Common.{◌≡◌, ◌+◌, drop}
use Rattle.auction_terms.specs.Stages.{each_in_turn}
use Rattle.auction_terms.specs.Terms.{lots_in}
use Rattle.bid_desk.specs.Closing.{book_of}
use Rattle.prices.specs.Alone.{bidder_alone, costs_alone}
use Rattle.prices.specs.Prices.{reserves_in}
use Rattle.prices.proofs.AloneFacts.{onto}
use Rattle.prices.proofs.alone.costs_alone.Given as goal

-- with those of the other bidders they are all
abbrev pub invariant-loop-place : goal.invariant-loop-place
invariant-loop-place l =
    onto l.costs.items (each_in_turn (λ bidder form. bidder_alone (reserves_in l.book.rules) (lots_in l.book.rules) (book_of l.book) l.first
    l.listed.groups.now l.listed.won.now bidder) (l.place + 1) (drop l.place (book_of l.book)))
    ≡ costs_alone (reserves_in l.book.rules) (lots_in l.book.rules) (book_of l.book) l.first l.listed.groups.now l.listed.won.now
