use Rattle.memchr.specs.Find.{Nowhere, Passes, is_byte}
use Rattle.auction_terms.specs.inside.RecordFields.{quote}
use Rattle.auction_terms.proofs.record_fields.mark_place.Given as goal

abbrev pub invariant-loop-place : goal.invariant-loop-place
invariant-loop-place l = record {
  before : Nowhere (Passes (is_byte quote) l.bytes) 0 l.place;
}
