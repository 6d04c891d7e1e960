use Rattle.std.proofs.Common.{rules, ◌≡◌, ◌∙◌, sym, length}
use Rattle.std.proofs.lemmas.Bool.{eqb-true}
use Rattle.auction_terms.specs.LineFields.{fields}
use Rattle.auction_terms.specs.Lines.{bytes_of}
use Rattle.std.proofs.lemmas.List.{take_at}
use Rattle.mps_reader.proofs.NameFacts.{length-bytes}
use Rattle.mps_reader.proofs.fields.first_fields.Goals as goal

pub loop-field-preserved : goal.loop-field-preserved
loop-field-preserved c =
    let items = bytes_of c.loop-field.fields.items in
    let full : length (bytes_of c.loop-field.fields.items) ≡ 6 = length-bytes c.loop-field.fields.items
    ∙ eqb-true _ _ (sym c.is_full.ensures.value ∙ c.if-not-is_full.false) in
    record {
      few = c.loop-field.invariant.few;
      front = c.loop-field.invariant.front ∙ take_at items (fields c.loop-field.rest.now) 6 full ∙ sym (take_at items (fields c.in-Some.after.now) 6 full);
      text = search rules;
    }
