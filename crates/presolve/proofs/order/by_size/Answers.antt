use Rattle.std.proofs.Common.{ℕ, List, sym, subst}
use Rattle.auction_terms.specs.Terms.{lots_in}
use Rattle.presolve.specs.Sizes.{IsBySize}
use Rattle.presolve.specs.inside.Sizes.{IsOrdered}
use Rattle.auction_terms.specs.declared.bids.Bid.{Bid}
use Rattle.presolve.proofs.SizeFacts.{is_by_size, whole}
use Rattle.presolve.proofs.order.by_size.Goals as goal

pub returns : goal.returns
returns c =
    let lots = lots_in c.args.rules.now in
    let items = c.in_ok-ordered.ordered.items in
    let order = subst (λ (form : List Bid). IsOrdered lots form items) c.bids.ensures.bids c.in_ok-ordered.ensures in
    let numbers = whole items c.deref-bid-items.result.now c.loop-bid.bid-index c.loop-bid.numbers.items c.deref-bid-items.ensures.value
    c.loop-bid-test.false c.loop-bid.invariant.own in
    subst (λ (ns : List ℕ). IsBySize lots c.args.form.now.bids ns) (sym numbers) (is_by_size lots c.args.form.now.bids items order)
