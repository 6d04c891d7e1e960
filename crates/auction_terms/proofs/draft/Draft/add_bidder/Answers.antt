use Rattle.std.proofs.Common.{◌≡◌, ap, sym}
use Rattle.auction_terms.proofs.TermsFacts.{limits-bidder}
use Rattle.auction_terms.proofs.draft.Draft.add_bidder.Goals as goal

pub invariant_of-self-2 : goal.invariant_of-self-2
invariant_of-self-2 c =
    let same : c.args.self.now.bidders ≡ c.self.inside.bidders.items = ap (λ e. e.bidders) (sym c.self.view_is) in
    rw c.in_ok-push.ensures.items (limits-bidder c.self.inside.categories.items c.self.inside.bidders.items c.self.inside.pools.items
    c.self.inside.members.items c.args.bidder
    c.self.invariant c.requires.limits (rw same at c.requires.room) (rw same at c.requires.new_name))
