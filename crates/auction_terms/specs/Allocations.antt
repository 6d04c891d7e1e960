-- Allocations of a book, for a group of bidders left out. They know nothing of columns or of presolve.
-- A book is the list of its forms: the form of bidder 1, of bidder 2, and so on, where a bidder without a form has none. A form is the list of its bids.
use Rattle.std.specs.Prelude.{◌≡◌, ℕ, zero, suc, ◌+◌, ◌≤◌, Bool, true, not, ◌&&◌, ◌==◌, List, [], Option, None, Some}
use Rattle.std.specs.Prelude.{length, map, slice_get, slice_index, slice_index_or, sum_by, count_by, All, is_some}
use Rattle.std.specs.Option.{option_map_or}
use Rattle.std.specs.List.{range_with_len}
use Rattle.auction_terms.specs.declared.bids.Bid.{Bid}
use Rattle.auction_terms.specs.declared.bids.Choice.{Choice}
use Rattle.auction_terms.specs.Packages.{Lots, fits, left, weighed, worth, worth_of_all}

-- all bids of an auction: the form of each bidder, in order of the bidders' numbers, each a list of bids
abbrev pub Book : Type 0
Book = List (List Bid)

-- the bids of a bidder
abbrev pub form_of : Book → ℕ → List Bid
form_of book zero = []
form_of book (suc b) = slice_index_or book b []

-- a bid of a form, by its number
abbrev pub bid_at : List Bid → ℕ → Option Bid
bid_at form zero = None
bid_at form (suc j) = slice_get form j

-- the bid that a choice names, if its bidder has one of this number
abbrev pub bid_of : Book → Choice → Option Bid
bid_of book c = bid_at (form_of book c.bidder) c.bid

-- the amount of the bid that a choice names; 0 if there is no such bid
abbrev pub amount_of : Book → Choice → ℕ
amount_of book c = option_map_or (λ x. x.amount) (bid_of book c) 0

-- how many lots of a category the bid that a choice names asks for; 0 if there is no such bid
abbrev pub quantity_of : Book → ℕ → Choice → ℕ
quantity_of book category c = option_map_or (λ x. slice_index x.package category) (bid_of book c) 0

-- the quantities of the bid that is chosen, each times its weight
abbrev pub weighed_choice : List ℕ → Book → Choice → ℕ
weighed_choice weights book c = option_map_or (λ x. weighed weights x.package) (bid_of book c) 0

-- the sum of the packages, in each category
abbrev pub loads : Lots → Book → List Choice → List ℕ
loads lots book a = map (λ category. sum_by (quantity_of book category) a) (range_with_len 0 (length lots.supply))

-- the sum of the amounts, and what the lots are worth that are left
abbrev pub total : Lots → Book → List Choice → ℕ
total lots book a = sum_by (amount_of book) a + worth lots (left lots.supply (loads lots book a))

-- a bid of a bidder outside the group
abbrev pub is_eligible : Book → (ℕ → Bool) → Choice → Bool
is_eligible book group c = not (group c.bidder) && is_some (bid_of book c)

-- a map from bidders outside the group to a bid of their form, whose packages together fit
pub record IsFeasible (lots : Lots) (book : Book) (group : ℕ → Bool) (a : List Choice) : Type 0 where
  pub one_bid_each : (b : ℕ) → count_by (λ c. c.bidder == b) a ≤ 1
  pub eligible : All (λ c. is_eligible book group c ≡ true) a
  pub fit : fits lots (loads lots book a) ≡ true

-- every bid of the book has a quantity for each category
abbrev pub IsSized : Lots → Book → Type 0
IsSized lots book = (b j : ℕ) (x : Bid) → bid_at (form_of book b) j ≡ Some x → length x.package ≡ length lots.supply

-- what the packages together load a pool is the sum of their loads
abbrev pub LoadsAddUp : Type 0
LoadsAddUp = (lots : Lots) (book : Book) (a : List Choice) → IsSized lots book → (weights : List ℕ)
    → weighed weights (loads lots book a) ≡ sum_by (weighed_choice weights book) a

-- the total is what all lots are worth, and the sum of the nets: the amounts, less what the packages are worth
abbrev pub TotalsAreNets : Type 0
TotalsAreNets = (lots : Lots) (book : Book) (a : List Choice) → IsSized lots book → fits lots (loads lots book a) ≡ true
    → total lots book a + sum_by (weighed_choice lots.values book) a ≡ sum_by (amount_of book) a + worth_of_all lots
