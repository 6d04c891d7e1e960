use Rattle.std.proofs.Common.{sym, ◌∙◌}
use Rattle.mps_reader.proofs.FieldFacts.{no-field, field-found, field-at-end}
use Rattle.mps_reader.proofs.TextFacts.{blank-text, ended-text, ended-field, last-text, last-field, other-text}
use Rattle.mps_reader.proofs.fields.next_field.Goals as goal

pub returns-in_default-clause-fields : goal.returns-in_default-clause-fields
returns-in_default-clause-fields c = no-field c.args.rest.now c.in_default.ensures

pub returns-in_default-clause-text : goal.returns-in_default-clause-text
returns-in_default-clause-text c = blank-text c.args.rest.now c.in_default.ensures

pub returns-in_default-field_end-clause-fields : goal.returns-in_default-field_end-clause-fields
returns-in_default-field_end-clause-fields c =
    field-at-end c.args.rest.now c.after-text.result.now c.after.result.now c.in-Some.start c.in-Some.ensures c.after-text.ensures
    (last-field c.after-text.result.now c.in_default-field_end.ensures) c.after.ensures

pub returns-in_default-field_end-clause-text : goal.returns-in_default-field_end-clause-text
returns-in_default-field_end-clause-text c =
    last-text c.args.rest.now c.after-text.result.now c.after.result.now c.in-Some.start c.in-Some.ensures c.after-text.ensures
    c.in_default-field_end.ensures c.after.ensures

pub returns-then-not-is_space_byte-clause-other : goal.returns-then-not-is_space_byte-clause-other
returns-then-not-is_space_byte-clause-other c =
    other-text c.args.rest.now c.after-text.result.now c.in-Some.start c.in-Some-field_end.end c.in-Some.ensures c.after-text.ensures
    c.in-Some-field_end.ensures (sym c.is_space_byte.ensures ∙ c.if-not-is_space_byte.true)

pub returns-clause-fields : goal.returns-clause-fields
returns-clause-fields c =
    let ended = ended-field c.after-text.result.now c.in-Some-field_end.end c.in-Some-field_end.ensures
    (sym c.is_space_byte.ensures ∙ c.if-not-is_space_byte.false) in
    field-found c.args.rest.now c.after-text.result.now c.after-2.result.now c.in-Some.start c.in-Some-field_end.end c.in-Some.ensures
    c.after-text.ensures ended c.after-2.ensures

pub returns-clause-text : goal.returns-clause-text
returns-clause-text c =
    ended-text c.args.rest.now c.after-text.result.now c.after-2.result.now c.in-Some.start c.in-Some-field_end.end c.in-Some.ensures
    c.after-text.ensures c.in-Some-field_end.ensures (sym c.is_space_byte.ensures ∙ c.if-not-is_space_byte.false) c.after-2.ensures
