use Rattle.std.proofs.Common.{◌≡◌, ◌≤◌, ◌*◌, ◌^◌, take}
use Rattle.std.specs.Prelude.{sum_by}
use Rattle.auction_terms.specs.Allocations.{amount_of}
use Rattle.bid_desk.specs.Closing.{book_of}
use Rattle.outcome.proofs.costs.amounts_of.Given as goal

-- the amounts so far
abbrev pub invariant-loop-choice : goal.invariant-loop-choice
invariant-loop-choice l = record {
  sum_is : l.sum ≡ sum_by (amount_of (book_of l.book)) (take l.choice-index l.choices);
  small : l.sum ≤ l.choice-index * 2 ^ 64;
}
