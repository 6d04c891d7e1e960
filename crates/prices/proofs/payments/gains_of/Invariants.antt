use Rattle.std.proofs.Common.{◌≡◌, ◌≤◌, ◌*◌, ◌^◌, take}
use Rattle.std.specs.Prelude.{sum_by}
use Rattle.bid_desk.specs.Closing.{book_of}
use Rattle.outcome.specs.Pricing.{price_in}
use Rattle.prices.specs.Blocking.{gain}
use Rattle.prices.proofs.payments.gains_of.Given as goal

-- the gains so far
abbrev pub invariant-loop-choice : goal.invariant-loop-choice
invariant-loop-choice l = record {
  sum_is : l.sum ≡ sum_by (gain (book_of l.payments.book.now) l.payments.parts (price_in l.payments.prices.now)) (take l.choice-index l.payments.first.now);
  small : l.sum ≤ l.choice-index * 2 ^ 64;
}
