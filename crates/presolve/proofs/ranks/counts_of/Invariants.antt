use Rattle.std.proofs.Common.{◌≡◌, ◌+◌, ◌≤◌, length}
use Rattle.std.specs.Prelude.{All}
use Rattle.presolve.proofs.ranks.counts_of.Given as goal

-- a count for each number, none above how many there were so far
abbrev pub invariant-loop-number : goal.invariant-loop-number
invariant-loop-number l = record {
  count : length l.counts.items ≡ l.greatest + 1;
  few : All (λ count. count ≤ l.number-index) l.counts.items;
}
