-- Ties of allocations of greatest total, and what holds if one of them is the only one.
use Rattle.std.specs.Prelude.{◌≡◌, ℕ, ◌≤◌, Bool, false, ◌&&◌, ◌==◌, List, IsPermutation, ℤ}
use Rattle.std.specs.Cmp.Lexicographic.{pointwise}
use Rattle.auction_terms.specs.Groups.{has}
use Rattle.auction_terms.specs.declared.bids.Choice.{Choice}
use Rattle.auction_terms.specs.Packages.{Lots}
use Rattle.auction_terms.specs.Allocations.{Book, total, IsFeasible}
use Rattle.auction_terms.specs.Only.{IsOnly}
use Rattle.program_rows.specs.Faithful.{IsGreatest}
use Rattle.outcome.specs.PointAllocation.{HasRisingBidders}
use Rattle.outcome.specs.Report.{amounts_of_group, cost}
use Rattle.outcome.specs.Costs.{IsGreatestTotal, opportunity_cost}

-- both are of greatest total, and their choices differ, in whatever order
pub record IsTie (lots : Lots) (book : Book) (group : ℕ → Bool) (a other : List Choice) : Type 0 where
  pub greatest : IsGreatest lots book group a
  pub other_greatest : IsGreatest lots book group other
  pub differ : ¬ IsPermutation a other

-- ---- the only one

-- the only one is of greatest total
abbrev pub TheOnlyIsGreatest : Type 0
TheOnlyIsGreatest = (lots : Lots) (book : Book) (group : ℕ → Bool) (a : List Choice) → IsOnly lots book group a → IsGreatest lots book group a

-- if the first allocation is the only one, every allocation of greatest total with nobody left out has its choices, and a group's cost
-- doesn't depend on which allocations are taken
abbrev pub OnlyFirstSettlesCosts : Type 0
OnlyFirstSettlesCosts = (lots : Lots) (book : Book) (group : List ℕ) (first first' a a' : List Choice)
    → IsOnly lots book (λ b. false) first → IsGreatest lots book (λ b. false) first' → IsGreatest lots book (has group) a → IsGreatest lots book (has group) a'
    → IsPermutation first first' × (cost lots book first group a ≡ cost lots book first' group a')

-- what the group costs, whichever allocations of greatest total are taken: it follows from the lots, the book and the group
abbrev pub IsTheCost : Lots → Book → List ℕ → ℤ → Type 0
IsTheCost lots book group amount = (first a : List Choice) → IsGreatest lots book (λ b. false) first → IsGreatest lots book (has group) a
    → cost lots book first group a ≡ amount

-- it follows from the two greatest totals, and the amounts of the group's own bids in the only first allocation
abbrev pub OnlyFirstTellsCosts : Type 0
OnlyFirstTellsCosts = (lots : Lots) (book : Book) (group : List ℕ) (first : List Choice) (of_all without : ℕ)
    → IsOnly lots book (λ b. false) first → IsGreatestTotal lots book (λ b. false) of_all → IsGreatestTotal lots book (has group) without
    → IsTheCost lots book group (opportunity_cost of_all without (amounts_of_group book group first))

-- ---- ties

-- two allocations have the same bidders with the same bids, in the same order
abbrev pub same_choices : List Choice → List Choice → Bool
same_choices = pointwise (λ c d. (c.bidder == d.bidder) && (c.bid == d.bid))

-- among lists of rising bidders these are the ones with the same choices in whatever order
abbrev pub OthersDiffer : Type 0
OthersDiffer = (a other : List Choice) → HasRisingBidders a → HasRisingBidders other → same_choices a other ≡ false → ¬ IsPermutation a other

-- another feasible allocation of rising bidders whose total is no lower ties
abbrev pub OthersTie : Type 0
OthersTie = (lots : Lots) (book : Book) (group : ℕ → Bool) (a other : List Choice)
    → IsGreatest lots book group a → IsFeasible lots book group other → total lots book a ≤ total lots book other
    → HasRisingBidders a → HasRisingBidders other → same_choices a other ≡ false → IsTie lots book group a other
