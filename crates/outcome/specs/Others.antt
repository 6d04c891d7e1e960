-- What is printed after a report about other awards that are as good.
use Rattle.std.specs.Prelude.{◌≡◌, ℕ, suc, Bool, List, [], ◌∷◌, ◌++◌, Any, IsPermutation, codes, drop, flat_map, if◌then◌else◌, length, nat_le, take}
use Rattle.std.specs.List.{AllByRecursion}
use Rattle.auction_terms.specs.Allocations.{Book, IsSized}
use Rattle.auction_terms.specs.Packages.{Lots}
use Rattle.auction_terms.specs.declared.bids.Choice.{Choice}
use Rattle.auction_terms.specs.declared.limits.TheConstants.{MOST_TIES}
use Rattle.bid_desk.specs.Sale.{Sale}
use Rattle.outcome.specs.Following.{AreAllKept, AreApart, with_following}
use Rattle.outcome.specs.Report.{allocation_text}
use Rattle.outcome.specs.declared.others.Further.{Further}
use Rattle.outcome.specs.declared.others.Further.TheVariants.{More, NoOther, Unknown}
use Rattle.program_rows.specs.Faithful.{IsGreatest}

-- other awards of the same total, in the order in which they are printed, and whether there are more
pub record Others : Type 0 where
  pub awards : List (List Choice)
  pub further : Further

-- where these are all of kept bids, the first of them with nobody left out: the others, and those that follow, as many as are printed
abbrev pub others_of : Lots → Book → List (List Choice) → Others
others_of lots book listed =
    let all : List (List Choice) = with_following lots book listed in record {
      awards = drop 1 (take (suc MOST_TIES) all);
      further = if nat_le (length all) (suc MOST_TIES) then NoOther else More;
    }

-- ---- what is known is true

-- an allocation of greatest total beside all of these
pub record IsAnother (lots : Lots) (book : Book) (group : ℕ → Bool) (awards : List (List Choice)) (other : List Choice) : Type 0 where
  pub greatest : IsGreatest lots book group other
  pub differs : AllByRecursion (λ a. ¬ IsPermutation a other) awards

-- the first award and the others are of greatest total, no two of them have the same choices, and it is true that there is no other, or one more
pub record AreTrueOthers (lots : Lots) (book : Book) (group : ℕ → Bool) (first : List Choice) (others : Others) : Type 0 where
  pub greatest : AllByRecursion (IsGreatest lots book group) (first ∷ others.awards)
  pub apart : AreApart (first ∷ others.awards)
  pub all : others.further ≡ NoOther → (other : List Choice) → IsGreatest lots book group other → Any (λ a. IsPermutation a other) (first ∷ others.awards)
  pub more : others.further ≡ More → (other : List Choice) × IsAnother lots book group (first ∷ others.awards) other

-- where all of kept bids are known, what is printed of others is true
abbrev pub OthersAreTrue : Type 0
OthersAreTrue = (lots : Lots) (book : Book) (group : ℕ → Bool) (first : List Choice) (ties : List (List Choice)) → IsSized lots book
    → AreAllKept lots book group (first ∷ ties) → AreTrueOthers lots book group first (others_of lots book (first ∷ ties))

-- ---- the text

-- an award, after a line of its own
abbrev pub tie_text : Sale → List Choice → List ℕ
tie_text sale award = codes "tie\n" ++ allocation_text sale award

-- what is shown of further awards, where these are printed: that the winners are the only ones, that there is no other, or that there are more
abbrev pub further_text : List (List Choice) → Further → List ℕ
further_text awards Unknown = []
further_text [] NoOther = codes "unique\n"
further_text (award ∷ awards) NoOther = codes "no other\n"
further_text awards More = codes "and more\n"

-- each award, and the last line
abbrev pub others_text : Sale → Others → List ℕ
others_text sale others = flat_map (tie_text sale) others.awards ++ further_text others.awards others.further
