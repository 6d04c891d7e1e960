use Rattle.std.proofs.Common.{◌≡◌, ◌%◌, ◌==◌, Some, false, true, arith, sym}
use Rattle.std.proofs.lemmas.Grind.{common_steps}
use Rattle.csv.specs.Records.{fields_of}
use Rattle.auction_terms.specs.Numbers.{number_of}
use Rattle.auction_terms.specs.RulesText.{is_between, record_field}
use Rattle.auction_terms.specs.declared.limits.TheConstants.{GREATEST_AMOUNT}
use Rattle.bid_forms.proofs.form_records.take_amount.Goals as goal

pub returns-then-amount-lt1-clause-told : goal.returns-then-amount-lt1-clause-told
returns-then-amount-lt1-clause-told c =
    let known : number_of (record_field 1 (fields_of c.args.row.now)) ≡ Some c.in-Some.amount =
    (let value = rw (c.in-Some.is, c.field-text.ensures) at c.number.ensures.value in sym value) in
    let outside : is_between 1 GREATEST_AMOUNT c.in-Some.amount ≡ false = grind (arith, common_steps) in
    rw (known, outside) (rw (c.new-then-amount-lt1.ensures, c.limits_cause-cause.ensures, c.field-text.ensures) at c.in_ok-add-2.ensures)

pub returns-then-amount-step-ne0-clause-told : goal.returns-then-amount-step-ne0-clause-told
returns-then-amount-step-ne0-clause-told c =
    let known : number_of (record_field 1 (fields_of c.args.row.now)) ≡ Some c.in-Some.amount =
    (let value = rw (c.in-Some.is, c.field-text.ensures) at c.number.ensures.value in sym value) in
    let within : is_between 1 GREATEST_AMOUNT c.in-Some.amount ≡ true = grind (arith, common_steps) in
    let beside : (c.in-Some.amount % c.args.step == 0) ≡ false = grind (arith, common_steps) in
    rw (known, within, beside) (rw (c.new-then-amount-step-ne0.ensures, c.field-text.ensures) at c.in_ok-add-3.ensures)
