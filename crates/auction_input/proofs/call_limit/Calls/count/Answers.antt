use Rattle.std.proofs.Common.{◌≡◌, ◌<◌, ◌∙◌, arith, refl, sym}
use Rattle.auction_input.proofs.CallFacts.{none-refused, one-more-counted, refused-before, refused-here}
use Rattle.auction_input.specs.declared.call_limit.TheConstants.{COUNTS_LEN}
use Rattle.auction_input.proofs.call_limit.Calls.count.Goals as goal

pub returns-then-is_some : goal.returns-then-is_some
returns-then-is_some c forms counts number = refused-before c.args.self.now forms c.args.form.now counts (sym c.is_some.ensures ∙ c.if-is_some.true)

pub returns-then-self-bidder-ge-CALL_LIMIT : goal.returns-then-self-bidder-ge-CALL_LIMIT
returns-then-self-bidder-ge-CALL_LIMIT c forms counts number =
    let calls = c.args.self.now in
    let form = c.args.form.now in
    let none = none-refused calls.refused (sym c.is_some.ensures ∙ c.if-is_some.false) in
    let bidder : c.from-bidder.result ≡ form.bidder = c.from-bidder.ensures ∙ c.bidder.ensures.bidder in
    let small : form.bidder < COUNTS_LEN = (let few = c.bidder.ensures.form.bidders in omega arith) in
    refused-here calls forms form c.args.number counts none number small (rw bidder at c.if-self-bidder-ge-CALL_LIMIT.true)

pub returns : goal.returns
returns c forms counts number =
    let calls = c.args.self.now in
    let form = c.args.form.now in
    let none = none-refused calls.refused (sym c.is_some.ensures ∙ c.if-is_some.false) in
    let bidder : c.from-bidder.result ≡ form.bidder = c.from-bidder.ensures ∙ c.bidder.ensures.bidder in
    let small : form.bidder < COUNTS_LEN = (let few = c.bidder.ensures.form.bidders in omega arith) in
    rw bidder (one-more-counted calls forms form _ counts none small (rw bidder at c.if-self-bidder-ge-CALL_LIMIT.false) refl)
