-- How the awards that follow from one are found, winner by winner.
use Rattle.std.specs.Prelude.{ℕ, ◌+◌, Bool, false, ◌&&◌, ℤ, List, [], ◌∷◌, ◌++◌, drop, filter, length, map, slice_set, take}
use Rattle.std.specs.List.{range_with_len}
use Rattle.std.specs.Option.{option_map_or}
use Rattle.std.specs.Ordering.{int_eq}
use Rattle.auction_terms.specs.declared.bids.Bid.{Bid}
use Rattle.auction_terms.specs.declared.bids.Choice.{Choice}
use Rattle.auction_terms.specs.Packages.{Lots, fits}
use Rattle.auction_terms.specs.Domination.{net}
use Rattle.auction_terms.specs.Allocations.{Book, bid_at, loads}
use Rattle.outcome.specs.Following.{stand_ins, is_stand_in, variants}

-- two packages together
abbrev pub both_packages : List ℕ → List ℕ → List ℕ
both_packages [] q = []
both_packages (x ∷ p) [] = []
both_packages (x ∷ p) (y ∷ q) = (x + y) ∷ both_packages p q

-- x has this net, its package fits with what the others take, and it stands in for the bid of this number
abbrev pub replaces : Lots → List Bid → ℕ → ℤ → List ℕ → Bid → Bool
replaces lots form number own others x = (int_eq (net lots x) own && fits lots (both_packages others x.package)) && is_stand_in lots form number x

-- the numbers of the bids of a form that pass
abbrev pub numbers_passing : (Bid → Bool) → List Bid → List ℕ
numbers_passing passes form = filter (λ number. option_map_or passes (bid_at form number) false) (range_with_len 1 (length form))

-- the award with each of these bids of its bidder at this place
abbrev pub each_put : List Choice → ℕ → ℕ → List ℕ → List (List Choice)
each_put s place bidder numbers = map (λ number. slice_set s place (record { bidder = bidder; bid = number })) numbers

-- with the winner at this place, or one that stands in for it, where the lots suffice
abbrev pub options : Lots → Book → ℕ → Choice → List Choice → List (List Choice)
options lots book place w s = filter (λ v. fits lots (loads lots book v)) (map (λ d. slice_set s place d) (w ∷ stand_ins lots book w))

-- the awards in which only the first winners are replaced
abbrev pub partly : Lots → Book → List Choice → ℕ → List (List Choice)
partly lots book a count = filter (λ v. fits lots (loads lots book v)) (map (λ front. front ++ drop count a) (variants lots book (take count a)))
