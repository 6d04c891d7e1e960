use Rattle.std.proofs.Common.{◌≡◌, drop}
use Rattle.std.specs.List.{list_any}
use Rattle.auction_terms.specs.Domination.{dominates}
use Rattle.auction_terms.specs.Terms.{lots_in}
use Rattle.outcome.proofs.following.is_dominated.Given as goal

-- none of the bids so far
abbrev pub invariant-loop-y : goal.invariant-loop-y
invariant-loop-y l = list_any (λ y. dominates (lots_in l.book.rules) y l.x) l.bids
    ≡ list_any (λ y. dominates (lots_in l.book.rules) y l.x) (drop l.y-index l.bids)
