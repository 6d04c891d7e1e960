use Rattle.std.proofs.Common.{◌≡◌, ◌<◌, length, rules}
use Rattle.auction_input.proofs.SubmissionFacts.{one-more}
use Rattle.auction_input.proofs.by_bidder.add_form.Goals as goal

pub returns-clause-added : goal.returns-clause-added
returns-clause-added c =
    let b = c.from-bidder.result in
    let lists = c.args.lists.now.items in
    let bidder : c.args.form.bidder ≡ b = (cc) in
    let small : b < length lists = search rules in
    one-more lists b c.index_mut.result.now c.push.new.self c.in_ok-form.form c.args.form small bidder c.in_ok-form.ensures.ok
    c.index_mut.ensures.value c.in_ok-push.ensures.items
