use Rattle.std.proofs.Common.{◌≡◌, [], length}
use Rattle.csv.specs.Records.{fields_of, partial_of}
use Rattle.auction_terms.specs.inside.RecordFields.{TakesFields}
use Rattle.auction_terms.proofs.record_fields.take_fields.Given as goal

abbrev pub invariant-loop-rest : goal.invariant-loop-rest
invariant-loop-rest l = record {
  taken : TakesFields l.bytes (fields_of l.fn.row) (fields_of l.row) l.rest;
  whole : partial_of l.row ≡ [];
}

abbrev pub decreases-loop-rest : goal.decreases-loop-rest
decreases-loop-rest l = length l.rest
