use Rattle.auction_terms.specs.Terms.{lots_in}
use Rattle.bid_desk.specs.Closing.{book_of}
use Rattle.outcome.specs.Report.{cost}
use Rattle.prices.proofs.FewFacts.{between, cost_few}
use Rattle.prices.proofs.alone.alone_by.Goals as goal

pub greater-requires-clause-low : goal.greater-requires-clause-low
greater-requires-clause-low c =
    let it = cost (lots_in c.args.book.now.rules) (book_of c.args.book.now) c.args.first.now c.args.group.now c.args.without.now in
    let (low, high) = cost_few (lots_in c.args.book.now.rules) (book_of c.args.book.now) c.args.first.now c.args.group.now c.args.without.now
    c.within_limits.ensures.book c.requires.first c.choices-rising.ensures.rising c.requires.without in
    (between c.cost-cost.result it c.cost-cost.ensures low high).0

pub greater-requires-clause-high : goal.greater-requires-clause-high
greater-requires-clause-high c =
    let it = cost (lots_in c.args.book.now.rules) (book_of c.args.book.now) c.args.first.now c.args.group.now c.args.without.now in
    let (low, high) = cost_few (lots_in c.args.book.now.rules) (book_of c.args.book.now) c.args.first.now c.args.group.now c.args.without.now
    c.within_limits.ensures.book c.requires.first c.choices-rising.ensures.rising c.requires.without in
    (between c.cost-cost.result it c.cost-cost.ensures low high).1
