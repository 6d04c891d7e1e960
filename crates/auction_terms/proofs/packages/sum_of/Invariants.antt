use Rattle.std.proofs.Common.{◌≡◌, ◌≤◌, ◌+◌, ◌*◌, drop}
use Rattle.auction_terms.specs.Packages.{size}
use Rattle.auction_terms.proofs.packages.sum_of.Given as goal
use Rattle.auction_terms.specs.declared.limits.TheConstants.{GREATEST_QUANTITY}

abbrev pub invariant-loop-quantity : goal.invariant-loop-quantity
invariant-loop-quantity l = (l.total + size (drop l.quantity-index l.quantities) ≡ size l.quantities) × (l.total ≤ GREATEST_QUANTITY * l.quantity-index)
