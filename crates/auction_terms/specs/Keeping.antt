-- What presolve keeps of a book, and what stands in for a bid that it drops.
use Rattle.std.specs.Prelude.{◌≡◌, ◌⊎◌, ℕ, ◌≤◌, pos, ◌<ℤ◌, int_le, Bool, true, false, not, ◌&&◌, List, Some, filter, flat_map, map, All}
use Rattle.std.specs.List.{enumerate_from}
use Rattle.std.specs.Option.{option_map_or}
use Rattle.auction_terms.specs.declared.bids.Bid.{Bid}
use Rattle.auction_terms.specs.declared.bids.Choice.{Choice}
use Rattle.auction_terms.specs.Packages.{Lots, is_within, fits}
use Rattle.auction_terms.specs.Domination.{net, is_kept}
use Rattle.auction_terms.specs.Allocations.{Book, form_of, bid_at, bid_of, total, IsFeasible, IsSized}

-- a kept bid of the form, with a package at most that of x, and a net at least that of x
pub record KeptInstead (lots : Lots) (form : List Bid) (x : Bid) : Type 0 where
  pub number : ℕ
  pub bid : Bid
  pub stands : bid_at form number ≡ Some bid
  pub kept : is_kept lots form bid ≡ true
  pub smaller : is_within bid.package x.package ≡ true
  pub no_cheaper : int_le (net lots x) (net lots bid) ≡ true

-- every bid that fits has a net below 0, or is kept, or a kept bid of its form is at least as good
abbrev pub KeepsTheBest : Type 0
KeepsTheBest = (lots : Lots) (form : List Bid) (j : ℕ) (x : Bid) → bid_at form j ≡ Some x → fits lots x.package ≡ true
    → (net lots x <ℤ pos 0) ⊎ KeptInstead lots form x

-- a bid of the book, with its bidder and its number in the bidder's form
pub record Offer : Type 0 where
  pub bidder : ℕ
  pub number : ℕ
  pub bid : Bid

-- the bids of bidder b, numbered from j on
abbrev pub offers_of_form : ℕ → ℕ → List Bid → List Offer
offers_of_form b j form = map (λ (numbered : ℕ × Bid). record { bidder = b; number = numbered.0; bid = numbered.1 }) (enumerate_from j form)

-- the bids of these bidders, numbered from b on
abbrev pub offers_from : ℕ → Book → List Offer
offers_from b book = flat_map (λ (numbered : ℕ × List Bid). offers_of_form numbered.0 1 numbered.1) (enumerate_from b book)

-- the kept bids of the bidders outside the group, by rising bidder, then bid
abbrev pub kept_of : Lots → Book → (ℕ → Bool) → List Offer
kept_of lots book group = filter (λ o. not (group o.bidder) && is_kept lots (form_of book o.bidder) o.bid) (offers_from 1 book)

-- the choice is of a kept bid
abbrev pub is_kept_choice : Lots → Book → (ℕ → Bool) → Choice → Bool
is_kept_choice lots book group c = not (group c.bidder) && option_map_or (λ x. is_kept lots (form_of book c.bidder) x) (bid_of book c) false

-- an allocation of kept bids that is feasible and whose total isn't lower
pub record KeptAllocation (lots : Lots) (book : Book) (group : ℕ → Bool) (a : List Choice) : Type 0 where
  pub choices : List Choice
  pub feasible : IsFeasible lots book group choices
  pub kept : All (λ c. is_kept_choice lots book group c ≡ true) choices
  pub no_cheaper : total lots book a ≤ total lots book choices

-- every feasible allocation is matched by one of kept bids
abbrev pub KeptAreEnough : Type 0
KeptAreEnough = (lots : Lots) (book : Book) (group : ℕ → Bool) (a : List Choice) → IsSized lots book → IsFeasible lots book group a
    → KeptAllocation lots book group a
