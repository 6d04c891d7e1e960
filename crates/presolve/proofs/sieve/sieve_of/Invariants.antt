use Rattle.std.proofs.Common.{◌≡◌, ◌<◌, ◌≤◌, ℕ, length, slice_index, slice_index_or}
use Rattle.std.specs.Int.{div_ceil}
use Rattle.std.specs.Prelude.{All}
use Rattle.presolve.specs.declared.sieve.Level.{Level}
use Rattle.presolve.specs.inside.Sieves.{IsMarked}
use Rattle.presolve.proofs.sieve.sieve_of.Given as goal

-- the levels so far have the places of lower ranks too, and so has what is to be added; the others have those of their ranks
abbrev pub invariant-loop-level : goal.invariant-loop-level
invariant-loop-level l = record {
  count : length l.level-items ≡ length l.initial.level-items;
  room : length l.so_far.words.items ≡ div_ceil (length l.ranks.items) 64;
  long : All (λ level. length level.words.items ≡ div_ceil (length l.ranks.items) 64) l.level-items;
  lower : (i r : ℕ) (d : Level) → i < length l.ranks.items → r < l.level-index → slice_index l.ranks.items i ≤ r
      → IsMarked (slice_index_or l.level-items r d).words.items i;
  so_far : (i : ℕ) → i < length l.ranks.items → slice_index l.ranks.items i < l.level-index → IsMarked l.so_far.words.items i;
  own : (i r : ℕ) (d : Level) → i < length l.ranks.items → l.level-index ≤ r → r < length l.level-items → slice_index l.ranks.items i ≡ r
      → IsMarked (slice_index_or l.level-items r d).words.items i;
}
