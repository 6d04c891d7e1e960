use Rattle.std.proofs.Common.{◌<◌, ◌≤◌, ℕ, slice_index}
use Rattle.presolve.proofs.sieve.greatest.Given as goal

-- none of the ranks so far is greater
abbrev pub invariant-loop-rank : goal.invariant-loop-rank
invariant-loop-rank l = (k : ℕ) → k < l.rank-index → slice_index l.ranks k ≤ l.greatest
