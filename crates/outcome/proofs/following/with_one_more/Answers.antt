use Rattle.std.proofs.Common.{false, sym, subst}
use Rattle.auction_terms.specs.Allocations.{IsFeasible}
use Rattle.auction_terms.specs.Terms.{lots_in}
use Rattle.bid_desk.specs.Closing.{book_of}
use Rattle.outcome.proofs.following.with_one_more.Goals as goal

pub add_options-requires-clause-feasible : goal.add_options-requires-clause-feasible
add_options-requires-clause-feasible c =
    subst (IsFeasible (lots_in c.args.book.now.rules) (book_of c.args.book.now) (λ b. false)) (sym c.award-item.is)
    (c.requires.feasible c.loop-award.award-index c.award-item.result c.loop-award-test.true)
