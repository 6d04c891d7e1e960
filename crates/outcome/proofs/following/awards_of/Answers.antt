use Rattle.std.proofs.Common.{◌≡◌, ◌∙◌, List, Some, false, length, slice_get, get_or, sym, ap, subst, arith, take}
use Rattle.std.specs.Prelude.{All}
use Rattle.auction_terms.specs.declared.bids.Choice.{Choice}
use Rattle.auction_terms.specs.Allocations.{IsFeasible}
use Rattle.auction_terms.specs.Terms.{lots_in}
use Rattle.bid_desk.specs.Closing.{book_of}
use Rattle.outcome.proofs.PutFacts.{all_at, get_at, next_found, partly_end, partly_feasible}
use Rattle.outcome.proofs.following.awards_of.Goals as goal

pub with_one_more-requires-clause-feasible : goal.with_one_more-requires-clause-feasible
with_one_more-requires-clause-feasible c =
    let lots = lots_in c.args.book.now.rules in
    let book = book_of c.args.book.now in
    subst (All (IsFeasible lots book (λ b. false))) (sym (c.deref.ensures.value ∙ c.loop-place.invariant))
    (partly_feasible lots book c.args.award.now c.loop-place.place c.args.most c.requires.feasible c.requires.kept)

pub with_one_more-requires-clause-at : goal.with_one_more-requires-clause-at
with_one_more-requires-clause-at c =
    let lots = lots_in c.args.book.now.rules in
    let book = book_of c.args.book.now in
    let none : Choice = record { bidder = 0; bid = 0 } in
    let at = get_at c.choices-choices.result.now c.loop-place.place none c.loop-place-test.true in
    let w : Choice = get_or c.choices-choices.result.now c.loop-place.place none in
    subst (All (λ s. slice_get s c.loop-place.place ≡ Some w)) (sym (c.deref.ensures.value ∙ c.loop-place.invariant))
    (all_at lots book c.args.award.now c.loop-place.place c.args.most w (ap (λ (xs : List Choice). slice_get xs c.loop-place.place)
    (sym c.choices-choices.ensures.choices) ∙ at))

pub loop-place-preserved : goal.loop-place-preserved
loop-place-preserved c =
    let lots = lots_in c.args.book.now.rules in
    let book = book_of c.args.book.now in
    let none : Choice = record { bidder = 0; bid = 0 } in
    let at = get_at c.choices-choices.result.now c.loop-place.place none c.loop-place-test.true in
    next_found lots book c.args.award.now c.loop-place.place c.args.most _ c.deref.result.now c.in_ok-found.found.items
    (ap (λ (xs : List Choice). slice_get xs c.loop-place.place) (sym c.choices-choices.ensures.choices) ∙ at)
    (c.deref.ensures.value ∙ c.loop-place.invariant) c.in_ok-found.ensures

pub returns : goal.returns
returns c =
    let lots = lots_in c.args.book.now.rules in
    let book = book_of c.args.book.now in
    c.loop-place.invariant ∙ ap (λ (vs : List (List Choice)). take c.args.most vs)
    (partly_end lots book c.args.award.now c.loop-place.place (omega (arith, ap length c.choices-choices.ensures.choices, c.loop-place-test.false)))
