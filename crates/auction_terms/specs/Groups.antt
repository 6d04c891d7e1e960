-- Groups of bidders, as lists of rising numbers.
use Rattle.std.specs.Prelude.{◌≤◌, ◌<◌, ◌==◌, Bool, false, ℕ, List, [], ◌∷◌, length, All, AllPairs}
use Rattle.std.specs.List.{list_any}
use Rattle.auction_terms.specs.declared.limits.TheConstants.{MOST_BIDDERS, MOST_GROUPS}

-- the number of a bidder
pub record IsBidderNumber (number : ℕ) : Type 0 where
  pub some : 1 ≤ number
  pub few : number ≤ MOST_BIDDERS

-- bidder numbers, each below all later ones
pub record IsGroup (numbers : List ℕ) : Type 0 where
  pub each : All IsBidderNumber numbers
  pub rising : AllPairs (λ a b. a < b) numbers

-- groups within their limit
pub record AreGroups (groups : List (List ℕ)) : Type 0 where
  pub few : length groups ≤ MOST_GROUPS
  pub each : All IsGroup groups

-- there is a first group, and nobody is in it
abbrev pub starts_empty : List (List ℕ) → Bool
starts_empty [] = false
starts_empty (group ∷ more) = length group == 0

-- whether a bidder is in a group
abbrev pub has : List ℕ → ℕ → Bool
has group bidder = list_any (λ number. number == bidder) group
