use Rattle.std.proofs.Common.{◌≤◌, ◌^◌, ℕ, subst, sym}
use Rattle.auction_terms.specs.Terms.{lots_in}
use Rattle.bid_desk.specs.Closing.{book_of}
use Rattle.award_objects.proofs.SmallFacts as facts
use Rattle.award_objects.proofs.awards.small_total.Goals as goal

pub returns-clause-small : goal.returns-clause-small
returns-clause-small c =
    let book = c.args.book.now in
    subst (λ (n : ℕ). n ≤ 2 ^ 60) (sym c.total.ensures.sum)
    (facts.small_total (lots_in book.rules) (book_of book) c.args.allocation.now c.within_limits.ensures.lots c.within_limits.ensures.book c.choices-rising.ensures.rising)
