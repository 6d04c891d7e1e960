use Rattle.std.proofs.Common.{◌≡◌, Some, map, take}
use Rattle.auction_terms.specs.Offers.{offers}
use Rattle.program_rows.proofs.shared.bid_owners.Given as goal

-- the owners so far
abbrev pub invariant-loop-bid : goal.invariant-loop-bid
invariant-loop-bid l = l.owners.items ≡ map (λ o. Some o.bidder) (offers (take l.bid-index l.kept))
