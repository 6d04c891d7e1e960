use Rattle.std.proofs.Common.{◌≡◌, ◌+◌, drop, bytes_eq}
use Rattle.std.specs.List.{position_from}
use Rattle.auction_terms.specs.declared.bids.Bid.{Bid}
use Rattle.bid_forms.specs.Offers.{number_of_package}
use Rattle.bid_forms.proofs.seen.number_of.Given as goal

abbrev pub invariant-loop-place : goal.invariant-loop-place
invariant-loop-place l =
    position_from (λ (b : Bid). bytes_eq l.quantities b.package) (l.place + 1) (drop l.place l.bids) ≡ number_of_package l.quantities l.bids
