use Rattle.bid_desk.specs.Closing.{book_of}
use Rattle.auction_terms.specs.Terms.{lots_in}
use Rattle.prices.proofs.CodeFacts.{amount_small}
use Rattle.prices.proofs.amounts.amount_of.Goals as goal

pub returns-clause-small : goal.returns-clause-small
returns-clause-small c = rw c.amount_of.ensures (amount_small (lots_in c.args.book.now.rules) (book_of c.args.book.now) c.args.choice
    c.within_limits.ensures.book)
