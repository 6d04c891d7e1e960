use Rattle.std.proofs.Common.{◌≡◌, ◌≤◌, length, map, take}
use Rattle.std.specs.Prelude.{vec_len, vec_capacity}
use Rattle.presolve.specs.inside.Sieves.{shortfall}
use Rattle.presolve.proofs.sieve.shortfalls.Given as goal

-- those of the rivals so far
abbrev pub invariant-loop-rival : goal.invariant-loop-rival
invariant-loop-rival l = record {
  own : l.numbers.items ≡ map (λ s. shortfall s.net) (take l.rival-index l.rivals);
  filled : vec_len l.numbers ≡ l.rival-index;
  room : length l.rivals ≤ vec_capacity l.numbers;
}
