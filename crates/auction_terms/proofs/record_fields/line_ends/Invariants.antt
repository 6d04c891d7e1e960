use Rattle.std.proofs.Common.{◌≡◌, ◌≤◌, ◌-◌, drop, length}
use Rattle.csv.specs.Reading.{default_config, records}
use Rattle.auction_terms.proofs.record_fields.line_ends.Given as goal

-- those so far count for nothing
abbrev pub invariant-loop-count : goal.invariant-loop-count
invariant-loop-count l = record {
  within : l.count ≤ length l.bytes;
  same : records default_config (drop l.count l.bytes) ≡ records default_config l.bytes;
}

abbrev pub decreases-loop-count : goal.decreases-loop-count
decreases-loop-count l = length l.bytes - l.count
