-- The bids of one form by the sizes of their packages.
use Rattle.std.specs.Prelude.{◌≡◌, ◌≤◌, ◌+◌, ◌&&◌, ℕ, Bool, nat_lt, int_le, if◌then◌else◌, List, [], ◌∷◌, length, map, All, AllPairs, IsPermutation}
use Rattle.auction_terms.specs.declared.bids.Bid.{Bid}
use Rattle.auction_terms.specs.Packages.{Lots, is_within, fits, size}
use Rattle.auction_terms.specs.Domination.{net}
use Rattle.presolve.specs.declared.order.SizedBid.{SizedBid}
use Rattle.presolve.specs.Sizes.{IsUpTo}

-- a bid with the size of its package and its number in its form
pub record Sized : Type 0 where
  pub size : ℕ
  pub number : ℕ
  pub bid : Bid

-- a bid with its size and its number that the code holds, as contracts see it
abbrev pub sized_of : SizedBid → Sized
sized_of s = record { size = s.size; number = s.number; bid = s.bid.now }

-- the bids of a form that fit, numbered from j on, each with the size of its package
abbrev pub fitting_from : Lots → ℕ → List Bid → List Sized
fitting_from lots j [] = []
fitting_from lots j (x ∷ form) =
    if fits lots x.package
    then record { size = size x.package; number = j; bid = x } ∷ fitting_from lots (j + 1) form
    else fitting_from lots (j + 1) form

-- a bid that the code holds has the right size of its package with it
abbrev pub TellsItsSize : SizedBid → Type 0
TellsItsSize s = s.size ≡ size s.bid.now.package

-- a bid that the code holds has the right net with it
abbrev pub TellsItsNet : Lots → SizedBid → Type 0
TellsItsNet lots s = s.net ≡ net lots s.bid.now

-- the bids that fit, by rising size, ties by number
pub record IsOrdered (lots : Lots) (form : List Bid) (bids : List SizedBid) : Type 0 where
  pub fitting : List SizedBid
  pub same : map sized_of fitting ≡ fitting_from lots 1 form
  pub moved : IsPermutation fitting bids
  pub rising : AllPairs (λ s t. IsUpTo s.size s.number t.size t.number) bids
  pub reported : All TellsItsSize bids
  pub nets : All (TellsItsNet lots) bids

-- all bids, in the order of their numbers
pub record AreNumbered (lots : Lots) (form : List Bid) (bids : List SizedBid) : Type 0 where
  pub same : map (λ (s : SizedBid). s.bid.now) bids ≡ form
  pub reported : All TellsItsSize bids
  pub nets : All (TellsItsNet lots) bids

-- bids with a quantity for each of n categories, by rising size
pub record AreRivals (n : ℕ) (rivals : List SizedBid) : Type 0 where
  pub sized : All (λ s. length s.bid.now.package ≡ n) rivals
  pub rising : AllPairs (λ s t. s.size ≤ t.size) rivals

-- the second bid has a smaller size than the first, a net that isn't lower, and at most its package in every category
abbrev pub beats : SizedBid → SizedBid → Bool
beats x s = nat_lt s.size x.size && (int_le x.net s.net && is_within s.bid.now.package x.bid.now.package)
