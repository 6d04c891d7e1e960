use Rattle.std.proofs.Common.{◌≡◌, length, map, take}
use Rattle.bid_desk.specs.Sale.{bidder_name, sale_of}
use Rattle.byte_sinks.specs.Objects.{scalar_seen}
use Rattle.byte_sinks.specs.Objects.Scalar.{Text}
use Rattle.award_objects.proofs.groups.names_of.Given as goal

-- the names so far
abbrev pub invariant-loop-bidder : goal.invariant-loop-bidder
invariant-loop-bidder l = record {
  names : map scalar_seen l.names.items ≡ map Text (map (bidder_name (sale_of l.book).names) (take l.bidder-index l.numbers));
  count : length l.names.items ≡ l.bidder-index;
}
