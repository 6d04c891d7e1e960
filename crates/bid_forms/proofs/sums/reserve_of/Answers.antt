use Rattle.std.proofs.Common.{rules}
use Rattle.auction_terms.specs.declared.rules.Category.{Category}
use Rattle.bid_forms.proofs.PackageFacts.{weighed-more}
use Rattle.bid_forms.proofs.sums.reserve_of.Goals as goal

pub loop-place-preserved : goal.loop-place-preserved
loop-place-preserved c =
    let more = weighed-more (λ (category : Category). category.reserve) c.args.categories.now c.args.quantities.now c.loop-place.place
    c.loop-place.total _ c.index-categories-place.result
    c.loop-place-test.true (rw c.requires.sized c.loop-place-test.true) c.index-categories-place.is c.loop-place.invariant.0 in
    search rules
