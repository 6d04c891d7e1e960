-- Small books, the awards that follow from one, and what is printed of others.
use Rattle.std.proofs.Common.{◌≡◌, ℕ, List, [], ◌∷◌, refl}
use Rattle.auction_terms.specs.declared.bids.Bid.{Bid}
use Rattle.auction_terms.specs.declared.bids.Choice.{Choice}
use Rattle.auction_terms.specs.Packages.{Lots}
use Rattle.auction_terms.specs.Allocations.{Book}
use Rattle.outcome.specs.Following.{following, with_following}
use Rattle.outcome.specs.Others.{others_of}
use Rattle.outcome.specs.declared.others.Further.TheVariants.{NoOther}

abbrev bid : ℕ → ℕ → Bid
bid quantity amount = record { «package» = quantity ∷ []; amount = amount }

abbrev win : ℕ → ℕ → Choice
win bidder number = record { bidder = bidder; bid = number }

-- two lots, worth 4 each where they are left
abbrev two_lots : Lots
two_lots = record { supply = 2 ∷ []; values = 4 ∷ []; pools = [] }

-- the second bid of the first form takes a lot more, for what the lot is worth; the third is lower than the first for the same lot
abbrev two_forms : Book
two_forms = (bid 1 10 ∷ bid 2 14 ∷ bid 1 9 ∷ []) ∷ (bid 1 6 ∷ []) ∷ []

larger_bid : following two_lots two_forms (win 1 1 ∷ []) ≡ (win 1 2 ∷ []) ∷ []
larger_bid = refl

-- beside the second bidder there is no room for it
no_room : following two_lots two_forms (win 1 1 ∷ win 2 1 ∷ []) ≡ []
no_room = refl

nobody_wins : following two_lots two_forms [] ≡ []
nobody_wins = refl

-- four lots, worth nothing where they are left
abbrev four_lots : Lots
four_lots = record { supply = 4 ∷ []; values = 0 ∷ []; pools = [] }

-- each bidder pays as much for two lots as for one
abbrev one_or_two : Book
one_or_two = (bid 1 30 ∷ bid 2 30 ∷ []) ∷ (bid 1 40 ∷ bid 2 40 ∷ []) ∷ []

abbrev four_awards : List (List Choice)
four_awards = (win 1 1 ∷ win 2 1 ∷ []) ∷ (win 1 1 ∷ win 2 2 ∷ []) ∷ (win 1 2 ∷ win 2 1 ∷ []) ∷ (win 1 2 ∷ win 2 2 ∷ []) ∷ []

all_four : with_following four_lots one_or_two ((win 1 1 ∷ win 2 1 ∷ []) ∷ []) ≡ four_awards
all_four = refl

three_others : others_of four_lots one_or_two ((win 1 1 ∷ win 2 1 ∷ []) ∷ []) ≡ record {
  awards = (win 1 1 ∷ win 2 2 ∷ []) ∷ (win 1 2 ∷ win 2 1 ∷ []) ∷ (win 1 2 ∷ win 2 2 ∷ []) ∷ [];
  further = NoOther;
}
three_others = refl

-- with three lots both can't have two
three_lots : with_following (record { supply = 3 ∷ []; values = 0 ∷ []; pools = [] }) one_or_two ((win 1 1 ∷ win 2 1 ∷ []) ∷ [])
    ≡ (win 1 1 ∷ win 2 1 ∷ []) ∷ (win 1 1 ∷ win 2 2 ∷ []) ∷ (win 1 2 ∷ win 2 1 ∷ []) ∷ []
three_lots = refl

-- after two that are listed, what follows from the first, then from the second: each winner alone with its second bid
two_listed : with_following (record { supply = 2 ∷ []; values = 0 ∷ []; pools = [] }) ((bid 1 30 ∷ bid 2 30 ∷ []) ∷ (bid 1 30 ∷ bid 2 30 ∷ []) ∷ [])
    ((win 1 1 ∷ []) ∷ (win 2 1 ∷ []) ∷ []) ≡ (win 1 1 ∷ []) ∷ (win 2 1 ∷ []) ∷ (win 1 2 ∷ []) ∷ (win 2 2 ∷ []) ∷ []
two_listed = refl
