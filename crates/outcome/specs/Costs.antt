-- Opportunity costs of allocations of greatest total.
use Rattle.std.specs.Prelude.{◌≡◌, ℕ, ◌≤◌, Bool, false, List, filter, sum_by, ℤ, pos, ◌-ℤ◌, ◌≤ℤ◌}
use Rattle.auction_terms.specs.Groups.{has}
use Rattle.auction_terms.specs.declared.bids.Choice.{Choice}
use Rattle.auction_terms.specs.Packages.{Lots}
use Rattle.auction_terms.specs.Allocations.{Book, total, weighed_choice, IsSized}
use Rattle.program_rows.specs.Faithful.{IsGreatest}
use Rattle.outcome.specs.Report.{amounts_of_group, cost}

-- a cost isn't negative and is at most what the first allocation gives to the group, and leaving the group out never raises the total
pub record IsCost (lots : Lots) (book : Book) (first : List Choice) (group : List ℕ) (a : List Choice) : Type 0 where
  pub not_negative : pos 0 ≤ℤ cost lots book first group a
  pub at_most_amounts : cost lots book first group a ≤ℤ pos (amounts_of_group book group first)
  pub no_higher_total : total lots book a ≤ total lots book first

-- of allocations of greatest total, with nobody left out and with the group left out
abbrev pub CostsAreBounded : Type 0
CostsAreBounded = (lots : Lots) (book : Book) (group : List ℕ) (first a : List Choice)
    → IsGreatest lots book (λ b. false) first → IsGreatest lots book (has group) a → IsCost lots book first group a

-- what the lots would be worth, were they left, that an allocation gives to bidders of the group
abbrev pub worth_of_group : Lots → Book → List ℕ → List Choice → ℕ
worth_of_group lots book group a = sum_by (weighed_choice lots.values book) (filter (λ c. has group c.bidder) a)

-- a group's cost is at least what the lots that it wins would be worth, were they left: nobody has lots for less than they are worth unsold
abbrev pub CostsCoverLots : Type 0
CostsCoverLots = (lots : Lots) (book : Book) (group : List ℕ) (first a : List Choice) → IsSized lots book
    → IsGreatest lots book (λ b. false) first → IsGreatest lots book (has group) a → pos (worth_of_group lots book group first) ≤ℤ cost lots book first group a

-- a total that a feasible allocation without a group has, and none exceeds
pub record IsGreatestTotal (lots : Lots) (book : Book) (group : ℕ → Bool) (amount : ℕ) : Type 0 where
  pub allocation : List Choice
  pub greatest : IsGreatest lots book group allocation
  pub has_total : total lots book allocation ≡ amount

-- the opportunity cost of a group that has these amounts of its own: the greatest total without it, less what is left of the greatest total of all without them
abbrev pub opportunity_cost : ℕ → ℕ → ℕ → ℤ
opportunity_cost of_all without own = pos without -ℤ (pos of_all -ℤ pos own)

-- a group's cost by allocations of greatest total is the auction's own opportunity cost, whichever of these allocations are taken
abbrev pub CostsAreOwn : Type 0
CostsAreOwn = (lots : Lots) (book : Book) (group : List ℕ) (first a : List Choice) (of_all without : ℕ)
    → IsGreatestTotal lots book (λ b. false) of_all → IsGreatestTotal lots book (has group) without
    → IsGreatest lots book (λ b. false) first → IsGreatest lots book (has group) a
    → cost lots book first group a ≡ opportunity_cost of_all without (amounts_of_group book group first)
