-- What presolve keeps of a book, and what stands in for a bid that it drops.
use Rattle.std.specs.Prelude.{ℕ, Bool, not, ◌&&◌}
use Rattle.auction_terms.specs.declared.bids.Choice.{Choice}
use Rattle.auction_terms.specs.Allocations.{Book, form_of}
use Rattle.auction_terms.specs.Domination.{is_kept}
use Rattle.auction_terms.specs.Keeping.{Offer}
use Rattle.auction_terms.specs.Packages.{Lots}

-- the choice that takes an offered bid: its bidder and its number
abbrev pub choice_of : Offer → Choice
choice_of o = record { bidder = o.bidder; bid = o.number }

-- a bid of a bidder outside the group that is kept of its form
abbrev pub is_kept_offer : Lots → Book → (ℕ → Bool) → Offer → Bool
is_kept_offer lots book group o = not (group o.bidder) && is_kept lots (form_of book o.bidder) o.bid
