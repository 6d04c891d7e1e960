use Rattle.std.proofs.Common.{◌≡◌, ◌≤◌, ◌==◌, drop}
use Rattle.std.specs.Prelude.{count_by}
use Rattle.bid_desk.specs.Closing.{book_of}
use Rattle.outcome.specs.Pricing.{price_in}
use Rattle.prices.specs.Blocking.{surplus}
use Rattle.prices.proofs.payments.surplus_of.Given as goal

-- the whole sum is that from here on
abbrev pub invariant-loop-choice : goal.invariant-loop-choice
invariant-loop-choice l = record {
  surplus : surplus (book_of l.payments.book.now) (drop l.choice-index l.payments.first.now) l.payments.parts (price_in l.payments.prices.now) l.bidder
      ≡ surplus (book_of l.payments.book.now) l.payments.first.now l.payments.parts (price_in l.payments.prices.now) l.bidder;
  one : count_by (λ c. c.bidder == l.bidder) (drop l.choice-index l.payments.first.now) ≤ 1;
}
