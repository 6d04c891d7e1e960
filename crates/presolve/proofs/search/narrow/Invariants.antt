use Rattle.std.proofs.Common.{◌≡◌, ◌<◌, ◌≤◌, ℕ, length, slice_index}
use Rattle.std.specs.Int.{bit_at}
use Rattle.presolve.proofs.search.narrow.Given as goal

-- the words so far have the bits that all have, and are 0 where no bit was seen; the others are as they were
abbrev pub invariant-loop-place : goal.invariant-loop-place
invariant-loop-place l = record {
  count : length l.left ≡ length l.initial.left;
  kept : (j k : ℕ) → j < l.place → bit_at (slice_index l.initial.left j) k ≡ 1 → bit_at (slice_index l.first j) k ≡ 1
      → bit_at (slice_index l.second j) k ≡ 1 → bit_at (slice_index l.third j) k ≡ 1 → bit_at (slice_index l.fourth j) k ≡ 1
      → bit_at (slice_index l.left j) k ≡ 1;
  none : (j : ℕ) → j < l.place → l.any ≡ 0 → slice_index l.left j ≡ 0;
  later : (j : ℕ) → l.place ≤ j → slice_index l.left j ≡ slice_index l.initial.left j;
}
