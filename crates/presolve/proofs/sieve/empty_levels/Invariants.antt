use Rattle.std.proofs.Common.{◌≡◌, length}
use Rattle.std.specs.Prelude.{All}
use Rattle.presolve.proofs.sieve.empty_levels.Given as goal

-- so many levels so far, all as long
abbrev pub invariant-loop : goal.invariant-loop
invariant-loop l = record {
  count : length l.levels.items ≡ l.counter;
  long : All (λ level. length level.words.items ≡ l.words) l.levels.items;
}
