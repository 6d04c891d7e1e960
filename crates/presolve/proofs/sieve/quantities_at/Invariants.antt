use Rattle.std.proofs.Common.{◌≡◌, length, map, slice_index, take}
use Rattle.presolve.proofs.sieve.quantities_at.Given as goal

-- the quantities of the rivals so far
abbrev pub invariant-loop-rival : goal.invariant-loop-rival
invariant-loop-rival l = record {
  count : length l.numbers.items ≡ length l.rivals;
  own : take l.rival l.numbers.items ≡ map (λ s. slice_index s.bid.now.package l.place) (take l.rival l.rivals);
}
