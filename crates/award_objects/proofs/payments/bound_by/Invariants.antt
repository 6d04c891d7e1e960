use Rattle.std.proofs.Common.{◌≡◌, ◌≤◌, length, map, take}
use Rattle.std.specs.Prelude.{◌&&◌, filter}
use Rattle.std.specs.List.{enumerate_from, zip}
use Rattle.auction_terms.specs.Groups.{has}
use Rattle.byte_sinks.specs.Objects.{scalar_seen}
use Rattle.byte_sinks.specs.Objects.Scalar.{Number}
use Rattle.award_objects.proofs.payments.bound_by.Given as goal

-- the numbers so far
abbrev pub invariant-loop-place : goal.invariant-loop-place
invariant-loop-place l = record {
  numbers : map scalar_seen l.numbers.items
      ≡ map Number (map (λ e. e.0) (filter (λ e. has e.1.0 l.bidder && e.1.1) (take l.place (enumerate_from 1 (zip l.groups l.bound)))));
  few : length l.numbers.items ≤ l.place;
}
