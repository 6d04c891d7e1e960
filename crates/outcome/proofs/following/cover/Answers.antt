use Rattle.std.proofs.Common.{◌+◌, ◌∙◌, Bool, Some, cond, sym, ap}
use Rattle.auction_terms.specs.Terms.{lots_in}
use Rattle.outcome.specs.Following.{covers}
use Rattle.outcome.proofs.NumberFacts.{first_from, first_next}
use Rattle.outcome.proofs.following.cover.Goals as goal

pub returns-then-covers : goal.returns-then-covers
returns-then-covers c =
    let q = covers (lots_in c.args.book.now.rules) c.args.bids.now c.args.x.now in
    let at = c.loop-place.place in
    let next = first_next q c.args.bids.now at c.index-bids-place.result c.covers.result c.loop-place-test.true c.index-bids-place.is c.covers.ensures in
    sym (c.loop-place.invariant ∙ next ∙ ap (λ (b : Bool). cond b (Some (at + 1)) (first_from q c.args.bids.now (at + 1))) c.if-covers.true)

pub loop-place-preserved : goal.loop-place-preserved
loop-place-preserved c =
    let q = covers (lots_in c.args.book.now.rules) c.args.bids.now c.args.x.now in
    let at = c.loop-place.place in
    let next = first_next q c.args.bids.now at c.index-bids-place.result c.covers.result c.loop-place-test.true c.index-bids-place.is c.covers.ensures in
    c.loop-place.invariant ∙ next ∙ ap (λ (b : Bool). cond b (Some (at + 1)) (first_from q c.args.bids.now (at + 1))) c.if-covers.false
