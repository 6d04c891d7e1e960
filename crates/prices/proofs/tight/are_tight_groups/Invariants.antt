use Rattle.std.proofs.Common.{◌≡◌, drop}
use Rattle.std.specs.List.{list_all}
use Rattle.auction_terms.specs.Terms.{lots_in}
use Rattle.bid_desk.specs.Closing.{book_of}
use Rattle.outcome.specs.Pricing.{price_in}
use Rattle.prices.specs.Weights.{weighted}
use Rattle.prices.specs.Rule.{is_tight}
use Rattle.prices.proofs.tight.are_tight_groups.Given as goal

-- the groups from here on decide
abbrev pub invariant-loop-place : goal.invariant-loop-place
invariant-loop-place l =
    list_all (is_tight (lots_in l.payments.book.now.rules) (book_of l.payments.book.now) l.payments.first.now l.payments.parts (price_in l.payments.prices.now))
    (weighted (drop l.place l.listed.groups.now) (drop l.place l.listed.won.now) (drop l.place l.weights))
    ≡ list_all (is_tight (lots_in l.payments.book.now.rules) (book_of l.payments.book.now) l.payments.first.now l.payments.parts (price_in l.payments.prices.now)) (weighted l.listed.groups.now l.listed.won.now l.weights)
