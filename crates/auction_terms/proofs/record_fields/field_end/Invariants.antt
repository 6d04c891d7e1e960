use Rattle.memchr.specs.Find.{Nowhere, Passes}
use Rattle.auction_terms.specs.inside.RecordFields.{ends_field}
use Rattle.auction_terms.proofs.record_fields.field_end.Given as goal

abbrev pub invariant-loop-place : goal.invariant-loop-place
invariant-loop-place l = record {
  before : Nowhere (Passes ends_field l.bytes) 0 l.place;
}
