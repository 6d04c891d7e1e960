use Rattle.std.proofs.Common.{◌≡◌, ◌∙◌, true, sym, drop, arith}
use Rattle.csv.specs.Records.{fields_of}
use Rattle.auction_terms.specs.inside.RecordFields.{TakesFields, begins_with, comma}
use Rattle.auction_terms.proofs.FieldFacts.{taken_after}
use Rattle.auction_terms.proofs.record_fields.take_fields.Goals as goal

pub loop-rest-smaller : goal.loop-rest-smaller
loop-rest-smaller c = (let less = c.in_ok-rest-2.ensures.shorter in let back = c.split_at.ensures.back_len in omega arith)

pub loop-rest-preserved : goal.loop-rest-preserved
loop-rest-preserved c =
    let rest = c.loop-rest.rest.now in
    let so_far = fields_of c.loop-rest.row in
    let after = fields_of c.take_field-in-loop-rest.new.row in
    let left = c.in_ok-rest-2.rest.now in
    let begins : begins_with comma rest ≡ true = sym c.begins_with.ensures.value ∙ c.loop-rest-test.true in
    let more : TakesFields (drop 1 rest) so_far after left = rw c.split_at.ensures.back at c.in_ok-rest-2.ensures.taken in
    record {
      taken = taken_after c.args.bytes.now rest left (fields_of c.args.row.now) so_far after c.loop-rest.invariant.taken begins more;
      whole = c.in_ok-rest-2.ensures.whole;
    }
