use Rattle.std.proofs.Common.{◌≡◌, ◌<◌, ℕ, length, slice_index, slice_index_or}
use Rattle.std.specs.Int.{div_ceil}
use Rattle.std.specs.Prelude.{All}
use Rattle.presolve.specs.declared.sieve.Level.{Level}
use Rattle.presolve.specs.inside.Sieves.{IsMarked}
use Rattle.presolve.proofs.sieve.own_levels.Given as goal

-- the places so far are marked on the levels of their ranks
abbrev pub invariant-loop-place : goal.invariant-loop-place
invariant-loop-place l = record {
  count : length l.levels.items ≡ l.count;
  long : All (λ level. length level.words.items ≡ div_ceil (length l.ranks) 64) l.levels.items;
  marks : (i : ℕ) (d : Level) → i < l.place → IsMarked (slice_index_or l.levels.items (slice_index l.ranks i) d).words.items i;
}
