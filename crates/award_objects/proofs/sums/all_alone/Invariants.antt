use Rattle.std.proofs.Common.{◌≡◌, ◌≤◌, ◌+◌, ◌*◌, ◌^◌, drop, map}
use Rattle.std.specs.Prelude.{option_map}
use Rattle.bid_desk.specs.Sale.{sale_of}
use Rattle.award_objects.specs.Objects.{alone_of, sum_known}
use Rattle.award_objects.proofs.sums.all_alone.Given as goal

-- with what the other winners cost it is the whole
abbrev pub invariant-loop-choice : goal.invariant-loop-choice
invariant-loop-choice l = record {
  sum_is : option_map (λ more. l.sum + more) (sum_known (map (alone_of l.outcome.book.now.rules (sale_of l.outcome.book.now) l.first
      l.outcome.groups.now l.outcome.won.now) (drop l.choice-index l.first)))
      ≡ sum_known (map (alone_of l.outcome.book.now.rules (sale_of l.outcome.book.now) l.first l.outcome.groups.now l.outcome.won.now) l.first);
  small : l.sum ≤ l.choice-index * 2 ^ 64;
}
