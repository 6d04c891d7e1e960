use Rattle.std.proofs.Common.{◌≡◌, ◌∷◌, [], Some, None, sym}
use Rattle.csv.specs.Records.{fields_of}
use Rattle.auction_terms.specs.FirstFault.{first_failed}
use Rattle.auction_terms.specs.RulesText.{record_field}
use Rattle.bid_forms.proofs.FormFacts.{enough-after, enough-all}
use Rattle.bid_forms.specs.FormText.{form_header_checks, named_bidder}
use Rattle.bid_forms.proofs.form_text.judge_records.Goals as goal

pub returns-then-not-branch-clause-found : goal.returns-then-not-branch-clause-found
returns-then-not-branch-clause-found c =
    let none : c.args.reader.now ≡ [] = rw c.if-not-branch.true at c.in_ok-next.ensures.next in
    rw none (enough-all _ _ _ (rw c.of_whole.ensures at c.in_ok-add.ensures))

pub returns-in-Some-clause-found : goal.returns-in-Some-clause-found
returns-in-Some-clause-found c =
    let next : c.args.reader.now ≡ fields_of c.next.new.row ∷ c.next.new.self = rw c.if-not-branch.false at c.in_ok-next.ensures.next in
    let failed = sym (rw c.categories.ensures.value at c.in-Some.ensures) in
    rw (next, failed) (enough-all _ _ _ c.in_ok-add-2.ensures)

pub returns-in-Some-bidder_number-clause-found : goal.returns-in-Some-bidder_number-clause-found
returns-in-Some-bidder_number-clause-found c =
    let next : c.args.reader.now ≡ fields_of c.next.new.row ∷ c.next.new.self = rw c.if-not-branch.false at c.in_ok-next.ensures.next in
    let columns : first_failed (form_header_checks c.args.rules.now.categories (fields_of c.next.new.row)) ≡ None =
    sym (rw c.categories.ensures.value at c.in_default.ensures) in
    let named : named_bidder c.args.rules.now (record_field 1 (fields_of c.next.new.row)) ≡ Some c.in-Some-bidder_number.bidder =
    sym (rw c.field-name.ensures at c.in-Some-bidder_number.ensures) in
    rw (next, columns, named) c.read_form_of.ensures.found

pub returns-in-Some-bidder_number-clause-none : goal.returns-in-Some-bidder_number-clause-none
returns-in-Some-bidder_number-clause-none c =
    let next : c.args.reader.now ≡ fields_of c.next.new.row ∷ c.next.new.self = rw c.if-not-branch.false at c.in_ok-next.ensures.next in
    let columns : first_failed (form_header_checks c.args.rules.now.categories (fields_of c.next.new.row)) ≡ None =
    sym (rw c.categories.ensures.value at c.in_default.ensures) in
    let named : named_bidder c.args.rules.now (record_field 1 (fields_of c.next.new.row)) ≡ Some c.in-Some-bidder_number.bidder =
    sym (rw c.field-name.ensures at c.in-Some-bidder_number.ensures) in
    rw (next, columns, named) c.read_form_of.ensures.none

pub returns-in-Some-bidder_number-clause-form : goal.returns-in-Some-bidder_number-clause-form
returns-in-Some-bidder_number-clause-form c =
    let next : c.args.reader.now ≡ fields_of c.next.new.row ∷ c.next.new.self = rw c.if-not-branch.false at c.in_ok-next.ensures.next in
    let columns : first_failed (form_header_checks c.args.rules.now.categories (fields_of c.next.new.row)) ≡ None =
    sym (rw c.categories.ensures.value at c.in_default.ensures) in
    let named : named_bidder c.args.rules.now (record_field 1 (fields_of c.next.new.row)) ≡ Some c.in-Some-bidder_number.bidder =
    sym (rw c.field-name.ensures at c.in-Some-bidder_number.ensures) in
    rw (next, named) c.read_form_of.ensures.form

pub returns-clause-found : goal.returns-clause-found
returns-clause-found c =
    let next : c.args.reader.now ≡ fields_of c.next.new.row ∷ c.next.new.self = rw c.if-not-branch.false at c.in_ok-next.ensures.next in
    let columns : first_failed (form_header_checks c.args.rules.now.categories (fields_of c.next.new.row)) ≡ None =
    sym (rw c.categories.ensures.value at c.in_default.ensures) in
    let named : named_bidder c.args.rules.now (record_field 1 (fields_of c.next.new.row)) ≡ None = sym (rw c.field-name.ensures at c.in-None.ensures) in
    rw (next, columns, named) (enough-after _ _ _ _ _ (rw (c.new.ensures, c.field-name.ensures) at c.in_ok-add-in-None.ensures)
    c.in_ok-read_bids-in-None.ensures.found)

pub returns-clause-none : goal.returns-clause-none
returns-clause-none c none =
    let next : c.args.reader.now ≡ fields_of c.next.new.row ∷ c.next.new.self = rw c.if-not-branch.false at c.in_ok-next.ensures.next in
    let columns : first_failed (form_header_checks c.args.rules.now.categories (fields_of c.next.new.row)) ≡ None =
    sym (rw c.categories.ensures.value at c.in_default.ensures) in
    let named : named_bidder c.args.rules.now (record_field 1 (fields_of c.next.new.row)) ≡ None = sym (rw c.field-name.ensures at c.in-None.ensures) in
    let some = rw (next, columns, named) at none in
    cc some
