use Rattle.std.proofs.Common.{◌∙◌, ◌++◌, List, false, sym, ap, subst, take}
use Rattle.auction_terms.specs.declared.bids.Choice.{Choice}
use Rattle.auction_terms.specs.Allocations.{IsFeasible}
use Rattle.auction_terms.specs.Terms.{lots_in}
use Rattle.bid_desk.specs.Closing.{book_of}
use Rattle.outcome.specs.Following.{following}
use Rattle.outcome.proofs.PutFacts.{cut_more}
use Rattle.outcome.proofs.following.all_following.Goals as goal

pub following-requires-clause-feasible : goal.following-requires-clause-feasible
following-requires-clause-feasible c =
    subst (IsFeasible (lots_in c.args.book.now.rules) (book_of c.args.book.now) (λ b. false)) (sym c.award-item.is)
    (c.requires.feasible c.loop-award.award-index c.award-item.result c.loop-award-test.true)

pub loop-award-preserved : goal.loop-award-preserved
loop-award-preserved c =
    let f = following (lots_in c.args.book.now.rules) (book_of c.args.book.now) in
    c.in_ok-add_more.ensures ∙ ap (λ (more : List (List Choice)). take c.args.most (c.loop-award.found.items ++ more)) c.in_ok-more.ensures
    ∙ cut_more f c.args.most c.loop-award.award-index c.args.listed.now c.award-item.result c.loop-award.found.items
    c.loop-award-test.true c.award-item.is c.loop-award.invariant
