use Rattle.std.proofs.Common.{◌≡◌, ◌≤◌, ◌+◌, ◌<◌, Some, None, false, arith, length, rules, nat_le}
use Rattle.csv.specs.Records.{fields_of}
use Rattle.auction_terms.specs.RulesText.{record_field}
use Rattle.auction_terms.specs.Numbers.{number_of}
use Rattle.auction_terms.specs.declared.limits.TheConstants.{GREATEST_QUANTITY}
use Rattle.bid_forms.proofs.RecordFacts.{quantities-all, quantities-great, quantities-none, quantities-small}
use Rattle.bid_forms.proofs.BidFacts.{pass-quantities, quantities-fail}
use Rattle.bid_forms.proofs.form_records.read_quantities.Goals as goal

pub returns-in_default-clause-none : goal.returns-in_default-clause-none
returns-in_default-clause-none c =
    let r = fields_of c.args.row.now in
    let small : c.loop-n.n < length r = (let s = c.loop-n-test.true in let e = c.len-n-end.ensures in omega arith) in
    let none : None ≡ number_of (record_field (c.loop-n.n + 1) r) = rw c.field.ensures at c.in_default.ensures.value in
    quantities-fail c.args.place r (quantities-none r c.loop-n.n c.loop-n.quantities.items c.loop-n.invariant small none)

pub returns-then-value-gt-GREATEST_QUANTITY-clause-none : goal.returns-then-value-gt-GREATEST_QUANTITY-clause-none
returns-then-value-gt-GREATEST_QUANTITY-clause-none c =
    let r = fields_of c.args.row.now in
    let small : c.loop-n.n < length r = (let s = c.loop-n-test.true in let e = c.len-n-end.ensures in omega arith) in
    let some : Some c.in-Some.value ≡ number_of (record_field (c.loop-n.n + 1) r) = rw c.field.ensures at c.in-Some.ensures.value in
    let great : nat_le c.in-Some.value GREATEST_QUANTITY ≡ false = search rules in
    quantities-fail c.args.place r (quantities-great r c.loop-n.n c.loop-n.quantities.items c.in-Some.value c.loop-n.invariant small some great)

pub loop-n-preserved : goal.loop-n-preserved
loop-n-preserved c =
    let r = fields_of c.args.row.now in
    let small : c.loop-n.n < length r = (let s = c.loop-n-test.true in let e = c.len-n-end.ensures in omega arith) in
    let some : Some c.in-Some.value ≡ number_of (record_field (c.loop-n.n + 1) r) = rw c.field.ensures at c.in-Some.ensures.value in
    rw c.push.ensures.items (quantities-small r c.loop-n.n c.loop-n.quantities.items c.in-Some.value c.loop-n.invariant small some
    c.if-value-gt-GREATEST_QUANTITY.false)

pub returns-clause-none : goal.returns-clause-none
returns-clause-none c =
    let r = fields_of c.args.row.now in
    let long : length r ≤ c.loop-n.n = (let s = c.loop-n-test.false in let e = c.len-n-end.ensures in omega arith) in
    pass-quantities c.args.place r (quantities-all r c.loop-n.n c.loop-n.quantities.items c.loop-n.invariant long).0
