use Rattle.std.proofs.Common.{◌≡◌, ◌+◌, ◌<◌, ◌||◌, ℕ, false, drop, length, slice_index_or}
use Rattle.std.specs.List.{list_any}
use Rattle.auction_terms.specs.Terms.{lots_in}
use Rattle.presolve.proofs.FlagFacts.{stands}
use Rattle.presolve.proofs.NumberFacts.{passes}
use Rattle.presolve.proofs.flags.flags_of_form.Given as goal

-- each flag is set where a bid so far with its number is unbeaten, or one that is left makes it so
abbrev pub invariant-loop-place : goal.invariant-loop-place
invariant-loop-place l = record {
  count : length l.flags.items ≡ length l.bids;
  each : (i : ℕ) → i < length l.bids → (slice_index_or l.flags.items i false || list_any (passes (stands (lots_in l.rules) l.bids) (1 + i))
      (drop l.place l.rival-items)) ≡ list_any (passes (stands (lots_in l.rules) l.bids) (1 + i)) l.rival-items;
}
