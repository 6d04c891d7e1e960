use Rattle.std.proofs.Common.{◌≡◌, ◌<◌, ◌≤◌, ℕ, length, slice_index}
use Rattle.std.specs.Int.{bit_at}
use Rattle.presolve.proofs.sieve.add_lower.Given as goal

-- the words so far are the same, with the bits of both; the others are as they were
abbrev pub invariant-loop-place : goal.invariant-loop-place
invariant-loop-place l = record {
  count : length l.so_far.words.items ≡ length l.initial.so_far.words.items;
  long : length l.word-items ≡ length l.fn.level.words.items;
  same : (j : ℕ) → j < l.place → slice_index l.word-items j ≡ slice_index l.so_far.words.items j;
  own : (j k : ℕ) → j < l.place → bit_at (slice_index l.fn.level.words.items j) k ≡ 1 → bit_at (slice_index l.so_far.words.items j) k ≡ 1;
  lower : (j k : ℕ) → j < l.place → bit_at (slice_index l.initial.so_far.words.items j) k ≡ 1 → bit_at (slice_index l.so_far.words.items j) k ≡ 1;
  later : (j : ℕ) → l.place ≤ j → slice_index l.so_far.words.items j ≡ slice_index l.initial.so_far.words.items j;
  after : (j : ℕ) → l.place ≤ j → slice_index l.word-items j ≡ slice_index l.fn.level.words.items j;
}
