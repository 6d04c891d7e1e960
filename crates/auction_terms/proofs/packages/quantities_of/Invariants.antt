use Rattle.std.proofs.Common.{◌≡◌, take}
use Rattle.auction_terms.proofs.packages.quantities_of.Given as goal

abbrev pub invariant-loop-quantity : goal.invariant-loop-quantity
invariant-loop-quantity l = l.room.items ≡ take l.quantity-index l.quantities
