use Rattle.std.proofs.Common.{◌≡◌, ◌∷◌, ◌++◌, [], rules, sym}
use Rattle.csv.specs.Records.{fields_of}
use Rattle.bid_forms.specs.FormText.{parsed_bid}
use Rattle.bid_forms.proofs.BidFacts.{accepted-refused, bid-accepted, bid-refused, bid-told, bid-told-roomy, count-passes, package-refused, room-fails, room-passes, room-refused}
use Rattle.bid_forms.proofs.form_records.take_bid.Goals as goal

pub returns-then-before-ge-MOST_BIDS-clause-told : goal.returns-then-before-ge-MOST_BIDS-clause-told
returns-then-before-ge-MOST_BIDS-clause-told c =
    let room = room-fails c.args.entry.now.place c.args.bids.now.items (rw c.as_slice-before.ensures.value at c.if-before-ge-MOST_BIDS.true) in
    bid-told c.args.entry.now.rules.now _ _ _ _ _ _ _ _ (count-passes c.args.entry.now.rules.now _ _ (rw (c.len.ensures, c.categories.ensures.value) at c.if-len-wanted.false)) (rw c.step.ensures at c.in_ok-amount.ensures.told)
    (rw c.as_slice-before.ensures.value at c.in_ok-quantities.ensures.told) (rw room (rw (c.of_whole-then-before-ge-MOST_BIDS.ensures, c.most_cause-cause.ensures) at c.in_ok-add-2.ensures))

pub returns-then-before-ge-MOST_BIDS-clause-bids : goal.returns-then-before-ge-MOST_BIDS-clause-bids
returns-then-before-ge-MOST_BIDS-clause-bids c =
    sym (accepted-refused _ c.args.bids.now.items _ (room-refused c.args.entry.now.rules.now _ _ _ _ (rw c.as_slice-before.ensures.value at c.if-before-ge-MOST_BIDS.true)))

pub returns-then-before-ge-MOST_BIDS-clause-seen : goal.returns-then-before-ge-MOST_BIDS-clause-seen
returns-then-before-ge-MOST_BIDS-clause-seen c = rw c.as_slice-before.ensures.value at c.in_ok-quantities.ensures.kept

pub returns-in_default-clause-told : goal.returns-in_default-clause-told
returns-in_default-clause-told c =
    bid-told-roomy c.args.entry.now.rules.now _ _ _ _ _ _ _ (count-passes c.args.entry.now.rules.now _ _ (rw (c.len.ensures, c.categories.ensures.value) at c.if-len-wanted.false))
    (room-passes _ _ (rw c.as_slice-before.ensures.value at c.if-before-ge-MOST_BIDS.false)) (rw c.step.ensures at c.in_ok-amount.ensures.told)
    (rw c.as_slice-before.ensures.value at c.in_ok-quantities.ensures.told)

pub returns-in_default-clause-bids : goal.returns-in_default-clause-bids
returns-in_default-clause-bids c =
    let amount = rw (c.step.ensures, c.in_default.is) at c.in_ok-amount.ensures.amount in
    sym (accepted-refused _ c.args.bids.now.items _ (bid-refused c.args.entry.now.rules.now _ _ _ _ amount))

pub returns-in_default-clause-seen : goal.returns-in_default-clause-seen
returns-in_default-clause-seen c = rw c.as_slice-before.ensures.value at c.in_ok-quantities.ensures.kept

pub returns-in_default-quantities-clause-told : goal.returns-in_default-quantities-clause-told
returns-in_default-quantities-clause-told c =
    bid-told-roomy c.args.entry.now.rules.now _ _ _ _ _ _ _ (count-passes c.args.entry.now.rules.now _ _ (rw (c.len.ensures, c.categories.ensures.value) at c.if-len-wanted.false))
    (room-passes _ _ (rw c.as_slice-before.ensures.value at c.if-before-ge-MOST_BIDS.false)) (rw c.step.ensures at c.in_ok-amount.ensures.told)
    (rw c.as_slice-before.ensures.value at c.in_ok-quantities.ensures.told)

pub returns-in_default-quantities-clause-bids : goal.returns-in_default-quantities-clause-bids
returns-in_default-quantities-clause-bids c =
    let quantities = rw (c.in_default-quantities.is, c.as_slice-before.ensures.value) at c.in_ok-quantities.ensures.none in
    sym (accepted-refused _ c.args.bids.now.items _ (package-refused c.args.entry.now.rules.now _ _ _ _ quantities))

pub returns-in_default-quantities-clause-seen : goal.returns-in_default-quantities-clause-seen
returns-in_default-quantities-clause-seen c = rw c.as_slice-before.ensures.value at c.in_ok-quantities.ensures.kept

pub returns-clause-told : goal.returns-clause-told
returns-clause-told c =
    bid-told-roomy c.args.entry.now.rules.now _ _ _ _ _ _ _ (count-passes c.args.entry.now.rules.now _ _ (rw (c.len.ensures, c.categories.ensures.value) at c.if-len-wanted.false))
    (room-passes _ _ (rw c.as_slice-before.ensures.value at c.if-before-ge-MOST_BIDS.false)) (rw c.step.ensures at c.in_ok-amount.ensures.told)
    (rw c.as_slice-before.ensures.value at c.in_ok-quantities.ensures.told)

pub returns-clause-bids : goal.returns-clause-bids
returns-clause-bids c =
    let amount = rw (c.step.ensures, c.in-Some.is) at c.in_ok-amount.ensures.amount in
    let quantities = rw (c.in-Some-quantities.is, c.as_slice-before.ensures.value) at c.in_ok-quantities.ensures.none in
    let none = bid-accepted c.args.entry.now.rules.now _ _ c.args.bids.now.items _ (count-passes c.args.entry.now.rules.now _ _ (rw (c.len.ensures, c.categories.ensures.value) at c.if-len-wanted.false)) amount.0 quantities
    (room-passes _ _ (rw c.as_slice-before.ensures.value at c.if-before-ge-MOST_BIDS.false)) in
    let bid : record { «package» = c.of-package.result; amount = c.in-Some.amount } ≡ parsed_bid (fields_of c.args.entry.now.row.now) = search rules in
    let pushed : c.push.new.self.items ≡ c.args.bids.now.items ++ record { «package» = c.of-package.result; amount = c.in-Some.amount } ∷ [] = search rules in
    rw (none, sym bid) pushed

pub returns-clause-seen : goal.returns-clause-seen
returns-clause-seen c =
    let pushed : c.push.new.self.items ≡ c.args.bids.now.items ++ record { «package» = c.of-package.result; amount = c.in-Some.amount } ∷ [] = search rules in
    rw pushed ((rw (c.in-Some-quantities.is, c.as_slice-before.ensures.value) at c.in_ok-quantities.ensures.seen)
    (record { «package» = c.of-package.result; amount = c.in-Some.amount }) c.of-package.ensures)
