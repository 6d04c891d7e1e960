use Rattle.std.proofs.Common.{◌≡◌, length, map, take}
use Rattle.std.specs.List.{zip}
use Rattle.bid_desk.specs.Sale.{sale_of}
use Rattle.award_objects.specs.Objects.{is_bound}
use Rattle.award_objects.proofs.payments.are_bound.Given as goal

-- those so far
abbrev pub invariant-loop-place : goal.invariant-loop-place
invariant-loop-place l = record {
  bound : l.bound.items ≡ map (is_bound (sale_of l.outcome.book.now) l.pricing l.first) (take l.place (zip l.outcome.groups.now l.outcome.won.now));
  count : length l.bound.items ≡ l.place;
}
