use Rattle.auction_terms.proofs.TermsFacts.{limits-member}
use Rattle.auction_terms.proofs.draft.Draft.add_member.Goals as goal

pub invariant_of-self-2 : goal.invariant_of-self-2
invariant_of-self-2 c =
    rw c.in_ok-push.ensures.items (limits-member c.self.inside.categories.items c.self.inside.bidders.items c.self.inside.pools.items
    c.self.inside.members.items c.args.member
    c.self.invariant c.requires.limits)
