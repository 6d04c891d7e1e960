use Rattle.std.proofs.Common.{◌≡◌, length, map, take}
use Rattle.std.specs.List.{zip}
use Rattle.bid_desk.specs.Sale.{sale_of}
use Rattle.byte_sinks.specs.Objects.{scalar_seen}
use Rattle.byte_sinks.specs.Objects.Scalar.{Signed}
use Rattle.award_objects.specs.Objects.{costs_by}
use Rattle.award_objects.proofs.awards.costs_by.Given as goal

-- the costs so far
abbrev pub invariant-loop-place : goal.invariant-loop-place
invariant-loop-place l = record {
  costs : map scalar_seen l.costs.items
      ≡ map Signed (costs_by (sale_of l.outcome.book.now) (take l.place (zip l.outcome.groups.now l.outcome.won.now)) l.award);
  count : length l.costs.items ≡ l.place;
}
