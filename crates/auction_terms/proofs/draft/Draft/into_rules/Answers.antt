use Rattle.std.proofs.Common.{◌≡◌, ap, map, rules, sym}
use Rattle.auction_terms.specs.Entries.{pool_with}
use Rattle.auction_terms.specs.inside.Entries.{entries}
use Rattle.auction_terms.proofs.TermsFacts.{terms-limits}
use Rattle.auction_terms.proofs.draft.Draft.into_rules.Goals as goal

pub new-requires : goal.new-requires
new-requires c =
    let draft = c.self.inside in
    let categories : c.args.self.categories ≡ draft.categories.items = ap (λ e. e.categories) (sym c.self.view_is) in
    let bidders : c.args.self.bidders ≡ draft.bidders.items = ap (λ e. e.bidders) (sym c.self.view_is) in
    let made : c.in_ok-pools.pools.items ≡ map (pool_with draft.categories.items draft.members.items) draft.pools.items = search rules in
    rw made (terms-limits c.args.step (entries draft.categories.items draft.bidders.items draft.pools.items draft.members.items)
    c.self.invariant c.requires.least_step c.requires.greatest_step (rw categories at c.requires.some_category) (rw bidders at c.requires.some_bidder))
