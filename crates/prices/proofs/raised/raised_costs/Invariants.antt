use Rattle.std.proofs.Common.{◌≡◌, ◌++◌, drop, map}
use Rattle.bid_desk.specs.Closing.{book_of}
use Rattle.outcome.specs.Pricing.{price_in}
use Rattle.prices.specs.Blocking.{surplus}
use Rattle.prices.specs.Raised.{raised_cost}
use Rattle.prices.proofs.raised.raised_costs.Given as goal

-- with those of the other columns they are all
abbrev pub invariant-loop-column : goal.invariant-loop-column
invariant-loop-column l =
    l.costs.items ++ map (raised_cost l.payments.parts (surplus (book_of l.payments.book.now) l.payments.first.now l.payments.parts
    (price_in l.payments.prices.now))) (drop l.column l.program.columns)
    ≡ map (raised_cost l.payments.parts (surplus (book_of l.payments.book.now) l.payments.first.now l.payments.parts (price_in l.payments.prices.now)))
    l.program.columns
