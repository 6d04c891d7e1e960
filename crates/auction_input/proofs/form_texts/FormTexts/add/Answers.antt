use Rattle.std.proofs.Common.{◌≡◌, ◌<◌, ◌∙◌, arith, sym}
use Rattle.auction_input.proofs.CallFacts.{none-refused}
use Rattle.auction_input.proofs.FormTextFacts.{first-of-bidder, in-another-text, in-that-text, none-known, refused-before}
use Rattle.auction_input.specs.declared.form_texts.TheConstants.{TEXTS_LEN}
use Rattle.auction_input.proofs.form_texts.FormTexts.add.Goals as goal

pub returns-then-is_some : goal.returns-then-is_some
returns-then-is_some c forms knows number =
    refused-before c.args.rules.now c.args.self.now forms (c.args.form.now, c.args.text) knows (sym c.is_some.ensures ∙ c.if-is_some.true)

pub returns-in_default : goal.returns-in_default
returns-in_default c forms knows number =
    let form = c.args.form.now in
    let none = none-refused c.args.self.now.refused (sym c.is_some.ensures ∙ c.if-is_some.false) in
    let read : c.from.result ≡ form.bidder = c.from.ensures ∙ c.bidder-bidder.ensures.bidder in
    let written : c.from-in_default.result ≡ form.bidder = c.from-in_default.ensures ∙ c.bidder-bidder.ensures.bidder in
    let small : form.bidder < TEXTS_LEN = (let few = c.bidder-bidder.ensures.form.bidders in omega arith) in
    rw written (first-of-bidder c.args.rules.now c.args.self.now forms (form, c.args.text) knows none small (rw read at (none-known _ c.in_default.not-Some)))

pub returns-then-first_text-text : goal.returns-then-first_text-text
returns-then-first_text-text c forms knows number =
    let form = c.args.form.now in
    let none = none-refused c.args.self.now.refused (sym c.is_some.ensures ∙ c.if-is_some.false) in
    let read : c.from.result ≡ form.bidder = c.from.ensures ∙ c.bidder-bidder.ensures.bidder in
    let small : form.bidder < TEXTS_LEN = (let few = c.bidder-bidder.ensures.form.bidders in omega arith) in
    in-that-text c.args.rules.now c.args.self.now forms (form, c.args.text) knows none small c.in-Some.first_text (rw read at c.in-Some.is)
    c.if-first_text-text.true

pub returns : goal.returns
returns c forms knows number =
    let form = c.args.form.now in
    let none = none-refused c.args.self.now.refused (sym c.is_some.ensures ∙ c.if-is_some.false) in
    let read : c.from.result ≡ form.bidder = c.from.ensures ∙ c.bidder-bidder.ensures.bidder in
    let small : form.bidder < TEXTS_LEN = (let few = c.bidder-bidder.ensures.form.bidders in omega arith) in
    rw (c.of_bidder.ensures, c.bidder-bidder.ensures.bidder)
    (in-another-text c.args.rules.now c.args.self.now forms (form, c.args.text) knows none small c.in-Some.first_text
    (rw read at c.in-Some.is) c.args.number number c.if-first_text-text.false)
