use Rattle.std.proofs.Common.{◌≡◌, ◌^◌, ◌<◌, ◌≤◌, length}
use Rattle.std.specs.Prelude.{All}
use Rattle.std.specs.List.Sorted.{IsNonDecreasing}
use Rattle.presolve.proofs.ranks.ranks_by_counts.Given as goal

-- ranks that rise, none above the last one
abbrev pub invariant-loop-count : goal.invariant-loop-count
invariant-loop-count l = record {
  count : length l.ranks.items ≡ l.count-index;
  rising : IsNonDecreasing l.ranks.items;
  below : All (λ rank. rank ≤ l.rank) l.ranks.items;
  fits : l.rank < 2 ^ 8;
}
