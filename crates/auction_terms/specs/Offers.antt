-- What contracts see of kept bids that the code lends.
use Rattle.std.specs.Prelude.{List, map}
use Rattle.auction_terms.specs.declared.bids.KeptBid.{KeptBid}
use Rattle.auction_terms.specs.Keeping.{Offer}

-- a kept bid as contracts see it: its bidder, its number and the bid itself
abbrev pub offer_of : KeptBid → Offer
offer_of k = record { bidder = k.bidder; number = k.bid; bid = k.offer.now }

-- kept bids as contracts see them, in their order
abbrev pub offers : List KeptBid → List Offer
offers ks = map offer_of ks
