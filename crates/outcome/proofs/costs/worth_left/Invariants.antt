use Rattle.std.proofs.Common.{◌≡◌, ◌≤◌, ◌+◌, ◌*◌, drop}
use Rattle.std.specs.Prelude.{sum_by}
use Rattle.auction_terms.specs.Allocations.{quantity_of}
use Rattle.auction_terms.specs.declared.limits.TheConstants.{GREATEST_QUANTITY, GREATEST_VALUE}
use Rattle.bid_desk.specs.Closing.{book_of}
use Rattle.outcome.proofs.LeftFacts.{worth_from}
use Rattle.outcome.proofs.costs.worth_left.Given as goal

-- with what the other categories leave it is the whole
abbrev pub invariant-loop-category : goal.invariant-loop-category
invariant-loop-category l = record {
  sum_is : l.sum + worth_from (λ category. sum_by (quantity_of (book_of l.book) category) l.choices) l.category
      (drop l.category l.book.rules.categories) ≡ worth_from (λ category. sum_by (quantity_of (book_of l.book) category) l.choices) 0
      l.book.rules.categories;
  small : l.sum ≤ l.category * (GREATEST_VALUE * GREATEST_QUANTITY);
}
