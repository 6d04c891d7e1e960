-- Prices in parts of a pound: each price is a whole number of parts, of which the same number make a pound. And which prices are those of the rule.
use Rattle.std.specs.Prelude.{◌≡◌, ◌+◌, ◌-◌, ◌*◌, ◌≤◌, ℕ, All, List, pos, sum_by, ◌*ℤ◌, ◌≤ℤ◌}
use Rattle.auction_terms.specs.declared.bids.Choice.{Choice}
use Rattle.auction_terms.specs.Groups.{has}
use Rattle.auction_terms.specs.Packages.{Lots}
use Rattle.auction_terms.specs.Allocations.{Book, weighed_choice}
use Rattle.outcome.specs.Pricing.{paid}
use Rattle.outcome.specs.Report.{cost}
use Rattle.program_rows.specs.Faithful.{IsGreatest}
use Rattle.prices.specs.Prices.{paid_by_group}

-- each winner's price is at least the reserve of its lots
abbrev pub AreAtLeastReserves : List ℕ → Book → List Choice → ℕ → (ℕ → ℕ) → Type 0
AreAtLeastReserves reserves book first parts price = All (λ c. parts * weighed_choice reserves book c ≤ price c.bidder) first

-- no group of bidders pays less than its opportunity cost, and no winner less than the reserve of its lots
pub record Suffice (reserves : List ℕ) (lots : Lots) (book : Book) (first : List Choice) (parts : ℕ) (price : ℕ → ℕ) : Type 0 where
  pub some : 1 ≤ parts
  pub covers : (group : List ℕ) (without : List Choice) → IsGreatest lots book (has group) without
      → (pos parts *ℤ cost lots book first group without) ≤ℤ pos (paid_by_group price group first)
  pub meet : AreAtLeastReserves reserves book first parts price

-- by how much two numbers differ
abbrev pub apart : ℕ → ℕ → ℕ
apart m n = (m - n) + (n - m)

-- a number times itself
abbrev pub square : ℕ → ℕ
square n = n * n

-- how far prices are from what each winner costs alone, in pounds: the squares of the differences, added up
abbrev pub distance_from_alone : (ℕ → ℕ) → List Choice → ℕ → (ℕ → ℕ) → ℕ
distance_from_alone alone first parts price = sum_by (λ c. square (apart (price c.bidder) (parts * alone c.bidder))) first

-- prices in parts so many times smaller
abbrev pub in_smaller : ℕ → (ℕ → ℕ) → ℕ → ℕ
in_smaller times price b = times * price b

-- each winner's first price is the same amount as its second, whatever parts of a pound the two are in
abbrev pub AreSame : List Choice → ℕ → (ℕ → ℕ) → ℕ → (ℕ → ℕ) → Type 0
AreSame first parts price parts' price' = All (λ c. parts' * price c.bidder ≡ parts * price' c.bidder) first

-- the second prices have no lower sum than the first
abbrev pub IsNoLower : List Choice → ℕ → (ℕ → ℕ) → ℕ → (ℕ → ℕ) → Type 0
IsNoLower first parts price parts' price' = parts' * paid price first ≤ parts * paid price' first

-- the second prices are at least as near as the first to what each winner costs alone: both in parts of which both are made
abbrev pub IsAsNear : (ℕ → ℕ) → List Choice → ℕ → (ℕ → ℕ) → ℕ → (ℕ → ℕ) → Type 0
IsAsNear alone first parts price parts' price' =
    distance_from_alone alone first (parts * parts') (in_smaller parts price') ≤ distance_from_alone alone first (parts * parts') (in_smaller parts' price)

-- the prices of the rule: of all prices that suffice, those of least sum, and of these the ones nearest to what each winner costs alone, which are no others
pub record AreThePrices (reserves : List ℕ) (lots : Lots) (book : Book) (first : List Choice) (alone : ℕ → ℕ) (parts : ℕ) (price : ℕ → ℕ) : Type 0 where
  pub suffice : Suffice reserves lots book first parts price
  pub least : (parts' : ℕ) (price' : ℕ → ℕ) → Suffice reserves lots book first parts' price' → IsNoLower first parts price parts' price'
  pub nearest : (parts' : ℕ) (price' : ℕ → ℕ) → Suffice reserves lots book first parts' price' → IsNoLower first parts' price' parts price
      → IsAsNear alone first parts price parts' price' → AreSame first parts price parts' price'

-- no two are
abbrev pub ThePricesAreOne : Type 0
ThePricesAreOne = (reserves : List ℕ) (lots : Lots) (book : Book) (first : List Choice) (alone : ℕ → ℕ) (parts parts' : ℕ) (price price' : ℕ → ℕ)
    → AreThePrices reserves lots book first alone parts price → AreThePrices reserves lots book first alone parts' price'
    → AreSame first parts price parts' price'
