use Rattle.std.proofs.Common.{◌≡◌, ◌∙◌, ◌++◌, ◌∷◌, [], false, sym, take, drop}
use Rattle.csv.specs.Records.{fields_of}
use Rattle.auction_terms.specs.inside.RecordFields.{begins_with, quote}
use Rattle.auction_terms.proofs.FieldFacts.{field_taken, plain_field}
use Rattle.auction_terms.proofs.record_fields.take_field.Goals as goal

pub returns-clause-taken : goal.returns-clause-taken
returns-clause-taken c =
    let bytes = c.args.bytes.now in
    let before = fields_of c.args.row.now in
    let end = c.field_end.result in
    let plain : begins_with quote bytes ≡ false = sym c.begins_with.ensures.value ∙ c.if-begins_with.false in
    let fields : fields_of c.push_field.new.self ≡ before ++ take end bytes ∷ [] =
    rw (c.requires.whole, c.split_at.ensures.front) at c.in_ok-push_field.ensures.fields in
    rw (fields, c.split_at.ensures.back)
    (field_taken bytes (take end bytes) (drop end bytes) before (plain_field bytes end plain c.field_end.ensures.within
    c.field_end.ensures.before c.field_end.ensures.end))
