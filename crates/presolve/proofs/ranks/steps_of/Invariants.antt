use Rattle.std.proofs.Common.{◌≡◌, ◌+◌, ◌-◌, ◌/◌, ◌^◌, ◌<◌, ℕ, length, slice_index}
use Rattle.std.specs.Prelude.{min}
use Rattle.presolve.proofs.ranks.steps_of.Given as goal

-- the steps of the numbers so far
abbrev pub invariant-loop-place : goal.invariant-loop-place
invariant-loop-place l = record {
  count : length l.steps.items ≡ length l.numbers;
  own : (k : ℕ) → k < l.place → slice_index l.steps.items k ≡ min (slice_index l.numbers k - l.least + l.almost) (2 ^ 64 - 1) / 2 ^ l.bits;
}
