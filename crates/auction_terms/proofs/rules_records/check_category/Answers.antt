use Rattle.std.proofs.Common.{◌∙◌, Some, ap, rules, sym}
use Rattle.csv.specs.Records.{fields_of}
use Rattle.auction_terms.proofs.RulesTextFacts.{no-room}
use Rattle.auction_terms.proofs.rules_records.check_category.Goals as goal

pub returns-then-before-ge-MOST_CATEGORIES-clause-answer : goal.returns-then-before-ge-MOST_CATEGORIES-clause-answer
returns-then-before-ge-MOST_CATEGORIES-clause-answer c =
    no-room c.args.version c.args.place c.args.before.now (fields_of c.args.row.now) c.in_ok-supply.supply c.in_ok-reserve.reserve
    c.in_ok-points.points c.in_ok-value.value (search rules) (rw c.field.ensures at c.in_ok-supply.ensures.number)
    (rw c.field-2.ensures at c.in_ok-reserve.ensures.number) (rw c.field-3.ensures at c.in_ok-points.ensures.number)
    (rw c.value_text-value_text.ensures at c.in_ok-value.ensures.number) c.in_ok-check_range.ensures.within
    c.in_ok-check_range-2.ensures.within c.in_ok-check_range-3.ensures.within c.in_ok-check_range-4.ensures.within
    (search rules) (search rules) ∙ ap Some (sym c.room_fault.ensures)
