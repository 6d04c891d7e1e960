use Rattle.std.proofs.Common.{◌≡◌, ◌<◌, ℕ, length, slice_index}
use Rattle.presolve.proofs.ranks.own_ranks.Given as goal

-- the numbers so far
abbrev pub invariant-loop-place : goal.invariant-loop-place
invariant-loop-place l = record {
  count : length l.ranks.items ≡ length l.numbers;
  own : (k : ℕ) → k < l.place → slice_index l.ranks.items k ≡ slice_index l.numbers k;
}
