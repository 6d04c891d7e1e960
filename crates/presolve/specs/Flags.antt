-- Flags of bids: whether each bid of a book is kept; and the bids that are, of a form, and among choices.
use Rattle.std.specs.Prelude.{◌&&◌, ◌==◌, ℕ, Bool, List, filter, map}
use Rattle.std.specs.List.{list_any}
use Rattle.auction_terms.specs.declared.bids.Bid.{Bid}
use Rattle.auction_terms.specs.declared.bids.Choice.{Choice}
use Rattle.auction_terms.specs.Packages.{Lots}
use Rattle.auction_terms.specs.Domination.{is_kept}
use Rattle.auction_terms.specs.Allocations.{Book}
use Rattle.auction_terms.specs.Keeping.{Offer, kept_of, offers_of_form}

-- whether each bid of a form is kept
abbrev pub flags_of_form : Lots → List Bid → List Bool
flags_of_form lots form = map (is_kept lots form) form

-- whether each bid of each form is kept
abbrev pub flags_of : Lots → Book → List (List Bool)
flags_of lots book = map (flags_of_form lots) book

-- the kept bids of bidder b's form
abbrev pub kept_in_form : Lots → ℕ → List Bid → List Offer
kept_in_form lots b form = filter (λ o. is_kept lots form o.bid) (offers_of_form b 1 form)

-- one of the choices is of this bid of this bidder
abbrev pub has_choice : List Choice → ℕ → ℕ → Bool
has_choice choices bidder bid = list_any (λ c. (c.bidder == bidder) && (c.bid == bid)) choices

-- the kept bids that are among the choices
abbrev pub kept_among : Lots → Book → (ℕ → Bool) → List Choice → List Offer
kept_among lots book group choices = filter (λ o. has_choice choices o.bidder o.number) (kept_of lots book group)
