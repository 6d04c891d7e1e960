use Rattle.std.proofs.Common.{◌≡◌, ◌++◌, ◌∷◌, [], drop}
use Rattle.csv.specs.Records.{fields_of}
use Rattle.csv.specs.declared.parser.State.TheVariants as st
use Rattle.auction_terms.specs.inside.RecordFields.{GivesField}
use Rattle.auction_terms.proofs.FieldFacts.{field_taken, opened}
use Rattle.auction_terms.proofs.record_fields.take_quoted.Goals as goal

pub returns-in-Some-clause-taken : goal.returns-in-Some-clause-taken
returns-in-Some-clause-taken c =
    let bytes = c.args.bytes.now in
    let before = fields_of c.args.row.now in
    let field = c.in-Some.field.now in
    let rest = c.in-Some.rest.now in
    let fields : fields_of c.push_field.new.self ≡ before ++ field ∷ [] = rw c.requires.whole at c.in_ok-push_field.ensures.fields in
    let gives : GivesField st.InQuoted [] (drop 1 bytes) field rest = rw c.split_at.ensures.back at c.in-Some.ensures.given in
    rw fields (field_taken bytes field rest before (opened bytes field rest c.requires.quoted gives))

pub returns-clause-taken : goal.returns-clause-taken
returns-clause-taken c =
    let bytes = c.args.bytes.now in
    let before = fields_of c.args.row.now in
    let field = c.unquote.new.field.items in
    let rest = c.in_ok-rest.rest.now in
    let fields : fields_of c.push_field-2.new.self ≡ before ++ field ∷ [] =
    rw (c.requires.whole, c.deref.ensures.value) at c.in_ok-push_field-2.ensures.fields in
    let gives : GivesField st.InQuoted [] (drop 1 bytes) field rest = rw (c.clear.ensures.items, c.split_at.ensures.back) at c.in_ok-rest.ensures.given in
    rw fields (field_taken bytes field rest before (opened bytes field rest c.requires.quoted gives))
