use Rattle.std.proofs.Common.{◌≡◌, ◌≤◌, ◌*◌, ◌^◌, take}
use Rattle.bid_desk.specs.Closing.{book_of}
use Rattle.outcome.specs.Report.{amounts_of_group}
use Rattle.outcome.proofs.costs.amounts_in.Given as goal

-- the amounts so far
abbrev pub invariant-loop-choice : goal.invariant-loop-choice
invariant-loop-choice l = record {
  sum_is : l.sum ≡ amounts_of_group (book_of l.book) l.group (take l.choice-index l.choices);
  small : l.sum ≤ l.choice-index * 2 ^ 64;
}
