-- Flags of bids: whether each bid of a book is kept.
use Rattle.std.specs.Prelude.{◌≡◌, ◌≤◌, ◌+◌, ◌-◌, ◌&&◌, ◌==◌, ℕ, Bool, if◌then◌else◌, List, [], ◌∷◌, map, slice_get}
use Rattle.auction_terms.specs.declared.bids.Bid.{Bid}
use Rattle.auction_terms.specs.declared.bids.Choice.{Choice}
use Rattle.auction_terms.specs.Packages.{Lots}
use Rattle.auction_terms.specs.Allocations.{Book, form_of}
use Rattle.auction_terms.specs.Keeping.{Offer}
use Rattle.presolve.specs.Flags.{flags_of_form}

-- whether each bid of the forms of these bidders is kept
abbrev pub flags_of_bidders : Lots → Book → List ℕ → List (List Bool)
flags_of_bidders lots book bidders = map (λ bidder. flags_of_form lots (form_of book bidder)) bidders

-- the bids of bidder b whose flag is set, numbered from j on
abbrev pub flagged_from : ℕ → ℕ → List Bid → List Bool → List Offer
flagged_from b j [] flags = []
flagged_from b j (x ∷ form) [] = []
flagged_from b j (x ∷ form) (flag ∷ flags) =
    if flag
    then record { bidder = b; number = j; bid = x } ∷ flagged_from b (j + 1) form flags
    else flagged_from b (j + 1) form flags

-- the offer is of the choice's bid
abbrev pub is_offer_of : Choice → Offer → Bool
is_offer_of c o = (c.bidder == o.bidder) && (c.bid == o.number)

-- the choice at a place is the one before it again
abbrev pub IsRepeated : List Choice → ℕ → Type 0
IsRepeated choices place = (1 ≤ place) × (slice_get choices place ≡ slice_get choices (place - 1))
