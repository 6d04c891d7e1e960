-- Awards that follow from others: winning bids are replaced by bids of their forms that are in no program.
use Rattle.std.specs.Prelude.{◌≡◌, ℕ, Bool, true, false, not, ◌&&◌, ◌==◌, List, [], ◌∷◌, ◌++◌, Option}
use Rattle.std.specs.Prelude.{All, Any, IsPermutation, drop, filter, find, flat_map, length, map}
use Rattle.std.specs.List.{AllByRecursion, range_with_len}
use Rattle.std.specs.Option.{option_map_or}
use Rattle.std.specs.Ordering.{int_eq}
use Rattle.auction_terms.specs.declared.bids.Bid.{Bid}
use Rattle.auction_terms.specs.declared.bids.Choice.{Choice}
use Rattle.auction_terms.specs.Packages.{Lots, fits, is_within}
use Rattle.auction_terms.specs.Domination.{is_kept, net}
use Rattle.auction_terms.specs.Allocations.{Book, bid_at, form_of, loads, IsSized}
use Rattle.auction_terms.specs.Keeping.{is_kept_choice}
use Rattle.program_rows.specs.Faithful.{IsGreatest}
use Rattle.outcome.specs.PointAllocation.{HasRisingBidders}

-- ---- stand-ins

-- a bid y of the form covers x: its net is that of x, its package is at most that of x, and it is kept
abbrev pub covers : Lots → List Bid → Bid → Bid → Bool
covers lots form x y = (int_eq (net lots y) (net lots x) && is_within y.package x.package) && is_kept lots form y

-- the number of the first bid of the form that covers x
abbrev pub cover : Lots → List Bid → Bid → Option ℕ
cover lots form x = find (λ number. option_map_or (covers lots form x) (bid_at form number) false) (range_with_len 1 (length form))

-- x isn't kept, and the bid of this number is the first that covers it
abbrev pub is_stand_in : Lots → List Bid → ℕ → Bid → Bool
is_stand_in lots form number x = not (is_kept lots form x) && option_map_or (λ first. first == number) (cover lots form x) false

-- the bids that stand in for a winner's, in the order of its form
abbrev pub stand_ins : Lots → Book → Choice → List Choice
stand_ins lots book c = map (λ number. record { bidder = c.bidder; bid = number })
    (filter (λ number. option_map_or (is_stand_in lots (form_of book c.bidder) c.bid) (bid_at (form_of book c.bidder) number) false)
    (range_with_len 1 (length (form_of book c.bidder))))

-- ---- awards

-- each winner with its own bid or one that stands in for it: first all that have the first winner's own bid, and so on
abbrev pub variants : Lots → Book → List Choice → List (List Choice)
variants lots book [] = [] ∷ []
variants lots book (c ∷ a) = flat_map (λ d. map (λ others. d ∷ others) (variants lots book a)) (c ∷ stand_ins lots book c)

-- the variants of an award that the lots suffice for; the first is the award itself
abbrev pub awards : Lots → Book → List Choice → List (List Choice)
awards lots book a = filter (λ b. fits lots (loads lots book b)) (variants lots book a)

-- the awards that follow from an award: its variants that the lots suffice for, without the award itself
abbrev pub following : Lots → Book → List Choice → List (List Choice)
following lots book a = drop 1 (awards lots book a)

-- the listed awards, and after them those that follow from the first, from the second, and so on
abbrev pub with_following : Lots → Book → List (List Choice) → List (List Choice)
with_following lots book listed = listed ++ flat_map (following lots book) listed

-- ---- all that tie

-- each with each later one
abbrev pub EachPair : {X : Type 0} → (X → X → Type 0) → List X → Type 0
EachPair R [] = Unit {0}
EachPair R (x ∷ xs) = AllByRecursion (R x) xs × EachPair R xs

-- no two have the same choices
abbrev pub AreApart : List (List Choice) → Type 0
AreApart listed = EachPair (λ a b. ¬ IsPermutation a b) listed

-- all allocations of greatest total, each once
pub record AreAllGreatest (lots : Lots) (book : Book) (group : ℕ → Bool) (listed : List (List Choice)) : Type 0 where
  pub greatest : AllByRecursion (IsGreatest lots book group) listed
  pub all : (other : List Choice) → IsGreatest lots book group other → Any (λ a. IsPermutation a other) listed
  pub apart : AreApart listed

-- all of kept bids, each once, by rising bidder
pub record AreAllKept (lots : Lots) (book : Book) (group : ℕ → Bool) (listed : List (List Choice)) : Type 0 where
  pub greatest : AllByRecursion (IsGreatest lots book group) listed
  pub kept : AllByRecursion (All (λ c. is_kept_choice lots book group c ≡ true)) listed
  pub rising : AllByRecursion HasRisingBidders listed
  pub all : (other : List Choice) → IsGreatest lots book group other → All (λ c. is_kept_choice lots book group c ≡ true) other
      → Any (λ a. IsPermutation a other) listed
  pub apart : AreApart listed

-- where all of kept bids are known, what follows from them completes all
abbrev pub FollowingAreTheRest : Type 0
FollowingAreTheRest = (lots : Lots) (book : Book) (group : ℕ → Bool) (listed : List (List Choice)) → IsSized lots book
    → AreAllKept lots book group listed → AreAllGreatest lots book group (with_following lots book listed)

-- what follows from an award of greatest total is of greatest total too
abbrev pub FollowingAreGreatest : Type 0
FollowingAreGreatest = (lots : Lots) (book : Book) (group : ℕ → Bool) (a : List Choice) → IsSized lots book
    → All (λ c. is_kept_choice lots book group c ≡ true) a → IsGreatest lots book group a
    → AllByRecursion (IsGreatest lots book group) (following lots book a)
