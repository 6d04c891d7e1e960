use Rattle.std.proofs.Common.{◌≡◌, ◌≤◌, ◌*◌, ◌^◌, take}
use Rattle.std.specs.Prelude.{sum_by}
use Rattle.auction_terms.specs.Allocations.{weighed_choice}
use Rattle.bid_desk.specs.Closing.{book_of}
use Rattle.prices.specs.Prices.{reserves_in}
use Rattle.award_objects.proofs.sums.reserves_of.Given as goal

-- the sum so far
abbrev pub invariant-loop-choice : goal.invariant-loop-choice
invariant-loop-choice l = record {
  sum_is : l.sum ≡ sum_by (weighed_choice (reserves_in l.book.rules) (book_of l.book)) (take l.choice-index l.choices);
  small : l.sum ≤ l.choice-index * 2 ^ 64;
}
