use Rattle.std.proofs.Common.{◌∙◌, Some, ap, rules, sym}
use Rattle.csv.specs.Records.{fields_of}
use Rattle.auction_terms.proofs.RulesTextFacts.{first-is}
use Rattle.auction_terms.specs.declared.record_kinds.RecordKind.TheVariants as kind
use Rattle.auction_terms.proofs.rules_records.add_entry.Goals as goal

pub returns-in-Some-Category-clause-fault : goal.returns-in-Some-Category-clause-fault
returns-in-Some-Category-clause-fault c =
    first-is c.args.version c.args.place c.args.draft.now (fields_of c.args.row.now) kind.Category c.add_category.result (sym c.kind_of.ensures ∙ c.in-Some-Category.is ∙ ap Some c.in-Some-Category.field-0-is)
    (let m = c.len.ensures in let n = c.field_count.ensures in let is = c.if-len-field_count.false in search rules) c.add_category.ensures.fault

pub returns-in-Some-Bidder-clause-fault : goal.returns-in-Some-Bidder-clause-fault
returns-in-Some-Bidder-clause-fault c =
    first-is c.args.version c.args.place c.args.draft.now (fields_of c.args.row.now) kind.Bidder c.add_bidder.result (sym c.kind_of.ensures ∙ c.in-Some-Bidder.is ∙ ap Some c.in-Some-Bidder.field-0-is)
    (let m = c.len.ensures in let n = c.field_count.ensures in let is = c.if-len-field_count.false in search rules) c.add_bidder.ensures.fault

pub returns-in-Some-Pool-clause-fault : goal.returns-in-Some-Pool-clause-fault
returns-in-Some-Pool-clause-fault c =
    first-is c.args.version c.args.place c.args.draft.now (fields_of c.args.row.now) kind.Pool c.add_pool.result (sym c.kind_of.ensures ∙ c.in-Some-Pool.is ∙ ap Some c.in-Some-Pool.field-0-is)
    (let m = c.len.ensures in let n = c.field_count.ensures in let is = c.if-len-field_count.false in search rules) c.add_pool.ensures.fault

pub returns-in-Some-Member-clause-fault : goal.returns-in-Some-Member-clause-fault
returns-in-Some-Member-clause-fault c =
    first-is c.args.version c.args.place c.args.draft.now (fields_of c.args.row.now) kind.Member c.add_member.result (sym c.kind_of.ensures ∙ c.in-Some-Member.is ∙ ap Some c.in-Some-Member.field-0-is)
    (let m = c.len.ensures in let n = c.field_count.ensures in let is = c.if-len-field_count.false in search rules) c.add_member.ensures.fault
