use Rattle.std.proofs.lemmas.Bool.{lt-leb}
use Rattle.csv.specs.Records.{fields_of}
use Rattle.auction_terms.proofs.JudgeFacts.{holds-none}
use Rattle.auction_terms.specs.RulesText.{field_number}
use Rattle.bid_forms.proofs.BidFacts.{some-is}
use Rattle.bid_forms.specs.Offers.{reserve_of}
use Rattle.bid_forms.proofs.form_records.check_reserve.Goals as goal

pub returns-in_default-clause-told : goal.returns-in_default-clause-told
returns-in_default-clause-told c = rw (some-is _ (rw c.in_default.is at c.requires.amount)) (holds-none c.args.faults.now)

pub returns-clause-told : goal.returns-clause-told
returns-clause-told c =
    let amount = rw c.in-Some.is at c.requires.amount in
    let below = lt-leb (reserve_of c.args.entry.now.rules.now.categories c.args.quantities.now) (field_number 1 (fields_of c.args.entry.now.row.now))
    (rw (c.reserve_of-reserve.ensures, c.categories.ensures.value, amount.1) at c.if-reserve-amount.false) in
    rw (amount.0, below) (rw (c.new.ensures, c.reserve_of-reserve.ensures, c.categories.ensures.value, c.field.ensures) at c.in_ok-add.ensures)
