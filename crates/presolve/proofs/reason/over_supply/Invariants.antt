use Rattle.std.proofs.Common.{◌≡◌, ◌-◌, ℕ, length}
use Rattle.std.specs.Prelude.{nat_lt, slice_index}
use Rattle.std.specs.List.{find, range_with_len}
use Rattle.auction_terms.specs.Terms.{lots_in}
use Rattle.presolve.proofs.reason.over_supply.Given as goal

-- what is found from here on is what is found
abbrev pub invariant-loop-category : goal.invariant-loop-category
invariant-loop-category l =
    find (λ (place : ℕ). nat_lt (slice_index (lots_in l.rules).supply place) (slice_index l.package place)) (range_with_len 0 (length l.package))
    ≡ find (λ (place : ℕ). nat_lt (slice_index (lots_in l.rules).supply place) (slice_index l.package place))
    (range_with_len l.category (length l.package - l.category))
