use Rattle.std.proofs.Common.{ap, arith, length}
use Rattle.auction_terms.specs.Terms.{lots_in}
use Rattle.bid_desk.specs.Closing.{book_of}
use Rattle.prices.proofs.FewFacts.{few_winners}
use Rattle.prices.proofs.tight.is_tight.Goals as goal

pub paid_by-paid-requires : goal.paid_by-paid-requires
paid_by-paid-requires c =
    let few = few_winners (lots_in c.args.payments.now.book.now.rules) (book_of c.args.payments.now.book.now) c.args.payments.now.first.now c.within_limits.ensures.book
    c.requires.first.feasible c.choices.ensures.rising in
    let same = ap length c.choices.ensures.choices in
    omega (arith, few, same)
