use Rattle.std.proofs.Common.{◌≡◌, ◌<◌, ℕ, length, slice_index}
use Rattle.presolve.specs.inside.Sieves.{AreLower}
use Rattle.presolve.proofs.ranks.places_of.Given as goal

-- how many are lower than each so far
abbrev pub invariant-loop-number : goal.invariant-loop-number
invariant-loop-number l = record {
  count : length l.places.items ≡ l.number-index;
  lower : (k : ℕ) → k < l.number-index → AreLower l.sorted.items (slice_index l.numbers k) (slice_index l.places.items k);
}
