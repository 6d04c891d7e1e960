use Rattle.std.proofs.Common.{◌≡◌, ◌≤◌, ◌*◌, ◌^◌, take}
use Rattle.std.specs.Prelude.{sum_by}
use Rattle.auction_terms.specs.Allocations.{quantity_of}
use Rattle.bid_desk.specs.Closing.{book_of}
use Rattle.outcome.proofs.costs.lots_taken.Given as goal

-- the lots so far
abbrev pub invariant-loop-choice : goal.invariant-loop-choice
invariant-loop-choice l = record {
  lots_are : l.lots ≡ sum_by (quantity_of (book_of l.book) l.category) (take l.choice-index l.choices);
  small : l.lots ≤ l.choice-index * 2 ^ 16;
}
