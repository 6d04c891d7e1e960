use Rattle.std.proofs.Common.{◌≡◌, ◌≤◌, length, map, take}
use Rattle.std.specs.Prelude.{filter, nat_lt}
use Rattle.std.specs.List.{zip}
use Rattle.byte_sinks.specs.Objects.{count_seen}
use Rattle.award_objects.proofs.winners.lots_by_name.Given as goal

-- the lots so far
abbrev pub invariant-loop-place : goal.invariant-loop-place
invariant-loop-place l = record {
  lots : map count_seen l.lots.items
      ≡ filter (λ lots. nat_lt 0 lots.1) (take l.place (zip (map (λ category. category.name) l.categories) l.quantities));
  few : length l.lots.items ≤ l.place;
}
