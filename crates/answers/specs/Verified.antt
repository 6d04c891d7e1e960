-- What `verify` writes of an auction if it ends well: allocations of greatest total, and so the groups' own opportunity costs; prices that
-- cover every group; and what it says of other awards. Nothing here is about the texts of an input.
use Rattle.std.specs.Prelude.{◌≡◌, ◌⊎◌, ◌++◌, ◌∷◌, All, Any, IsPermutation, ℕ, false, true, List, [], Option, None, Some, IfSome, codes, flat_map, slice_index_or}
use Rattle.std.specs.Io.KnownBytes.{Appends}
use Rattle.std.specs.List.{AllByRecursion, AllZip}
use Rattle.auction_input.specs.Auction.{Auction}
use Rattle.auction_terms.specs.Allocations.{total}
use Rattle.auction_terms.specs.Groups.{has, starts_empty}
use Rattle.auction_terms.specs.Limits.{IsBook}
use Rattle.auction_terms.specs.Only.{IsOnly}
use Rattle.auction_terms.specs.declared.bids.Choice.{Choice}
use Rattle.outcome.specs.Costs.{IsCost, IsGreatestTotal, opportunity_cost}
use Rattle.outcome.specs.Pricing.{Priced, in_pounds, price_in, pricing_text}
use Rattle.outcome.specs.Report.{amounts_of_group, cost, report_text}
use Rattle.prices.specs.Alone.{AreCostsAlone}
use Rattle.prices.specs.Blocking.{ArePrices}
use Rattle.prices.specs.Parts.{AreSame, AreThePrices, Suffice}
use Rattle.prices.specs.Prices.{reserves_in}
use Rattle.bid_desk.specs.Sale.{Sale}
use Rattle.outcome.specs.Following.{AreAllGreatest}
use Rattle.outcome.specs.Others.{AreTrueOthers, Others, others_text, tie_text}
use Rattle.outcome.specs.PointAllocation.{HasRisingBidders}
use Rattle.outcome.specs.Ties.{IsTheCost}
use Rattle.outcome.specs.declared.others.Further.TheVariants.{NoOther}
use Rattle.program_rows.specs.Faithful.{IsGreatest}

-- a feasible allocation of greatest total without a group
abbrev pub IsGreatestWithout : Sale → List ℕ → List Choice → Type 0
IsGreatestWithout sale group a = IsGreatest sale.lots sale.book (has group) a

-- the cost that is written for a group is its opportunity cost by the greatest totals of the auction. It is at least 0 and at
-- most the amounts of the group, and the total without the group is no greater
pub record IsOwnCost (sale : Sale) (first : List Choice) (group : List ℕ) (a : List Choice) : Type 0 where
  pub is_opportunity_cost : (of_all without : ℕ) → IsGreatestTotal sale.lots sale.book (λ b. false) of_all → IsGreatestTotal sale.lots sale.book (has group) without
      → cost sale.lots sale.book first group a ≡ opportunity_cost of_all without (amounts_of_group sale.book group first)
  pub is_within_amounts : IsCost sale.lots sale.book first group a

-- prices in these parts of a pound are the prices of the rule: of all that cover every group and meet the reserves those of least sum, and
-- among several of least sum the ones nearest to what each winner costs alone
abbrev pub ArePricesOfRule : Auction → List Choice → ℕ → (ℕ → ℕ) → Type 0
ArePricesOfRule auction first parts price =
    (alone : ℕ → ℕ) × AreCostsAlone (reserves_in auction.rules) auction.sale.lots auction.sale.book first alone
    × AreThePrices (reserves_in auction.rules) auction.sale.lots auction.sale.book first alone parts price

-- prices that are true: each winner's exact price is at most its amount, and the exact ones cover every group and meet the reserves; so do those
-- in whole pounds, which are paid; and if they are called those of the rule, the exact ones are
pub record AreTruePrices (auction : Auction) (first : List Choice) (p : Priced) : Type 0 where
  pub at_most : ArePrices auction.sale.book first p.parts (price_in p.prices)
  pub suffice : Suffice (reserves_in auction.rules) auction.sale.lots auction.sale.book first p.parts (price_in p.prices)
  pub paid : Suffice (reserves_in auction.rules) auction.sale.lots auction.sale.book first 1 (in_pounds p.parts (price_in p.prices))
  pub by_rule : p.by_rule ≡ true → ArePricesOfRule auction first p.parts (price_in p.prices)

-- a report on an allocation of greatest total for each group, of which the first leaves nobody out, and on the groups' opportunity costs; after
-- it true prices, as there are if the input has prices, and what is said of other awards, which is true
pub record IsTrueReport (auction : Auction) (out : List ℕ) : Type 0 where
  pub won : List (List Choice)
  pub pricing : Option Priced
  pub others : Others
  pub text : out ≡ report_text auction.sale auction.groups won ++
      (pricing_text auction.sale (slice_index_or won 0 []) pricing ++ others_text auction.sale others)
  pub book : IsBook auction.sale.lots auction.sale.book
  pub starts : starts_empty auction.groups ≡ true
  pub greatest : AllZip (IsGreatestWithout auction.sale) auction.groups won
  pub rising : HasRisingBidders (slice_index_or won 0 [])
  pub costs : AllZip (IsOwnCost auction.sale (slice_index_or won 0 [])) auction.groups won
  pub prices : IfSome pricing (AreTruePrices auction (slice_index_or won 0 []))
  pub unpriced : pricing ≡ None → auction.prices ≡ []
  pub others_true : AreTrueOthers auction.sale.lots auction.sale.book (λ b. false) (slice_index_or won 0 []) others

-- a true report on an auction was written, and nothing else
pub record WritesTrueReport (auction : Auction) (taken taken' : Option (List ℕ)) : Type 0 where
  pub out : List ℕ
  pub is_true : IsTrueReport auction out
  pub sent : Appends taken taken' out

-- whichever allocations of greatest total are taken, the group's cost is the one that is written
abbrev pub IsSettledCost : Sale → List Choice → List ℕ → List Choice → Type 0
IsSettledCost sale first group a = IsTheCost sale.lots sale.book group (cost sale.lots sale.book first group a)

-- the winners are the only ones of so great a total, and the costs follow from the lots, the bids and the group
pub record IsOnlyOutcome (auction : Auction) (out : List ℕ) : Type 0 where
  pub won : List (List Choice)
  pub pricing : Option Priced
  pub text : out ≡ report_text auction.sale auction.groups won ++ (pricing_text auction.sale (slice_index_or won 0 []) pricing ++ codes "unique\n")
  pub only : IsOnly auction.sale.lots auction.sale.book (λ b. false) (slice_index_or won 0 [])
  pub costs : AllZip (IsSettledCost auction.sale (slice_index_or won 0 [])) auction.groups won

-- where a true report ends with the line `unique`, that is so
abbrev pub UniqueIsOnly : Type 0
UniqueIsOnly = (auction : Auction) (before : List ℕ) → IsTrueReport auction (before ++ codes "unique\n") → IsOnlyOutcome auction (before ++ codes "unique\n")

-- the awards that are printed are all that have so great a total: the winners of the report first, and each after a line `tie`
pub record IsWholeOutcome (auction : Auction) (out : List ℕ) : Type 0 where
  pub won : List (List Choice)
  pub pricing : Option Priced
  pub ties : List (List Choice)
  pub text : out ≡ report_text auction.sale auction.groups won ++ (pricing_text auction.sale (slice_index_or won 0 []) pricing ++
      (flat_map (tie_text auction.sale) ties ++ codes "no other\n"))
  pub all : AreAllGreatest auction.sale.lots auction.sale.book (λ b. false) (slice_index_or won 0 [] ∷ ties)

-- where a true report ends with the line `no other`, that is so
abbrev pub NoOtherIsSo : Type 0
NoOtherIsSo = (auction : Auction) (before : List ℕ) → IsTrueReport auction (before ++ codes "no other\n") → IsWholeOutcome auction (before ++ codes "no other\n")

-- ---------- the award follows from the sealed bids ----------

-- an award: a true report whose prices are those of the rule, and after which there is no other award than those that are printed
pub record IsAward (auction : Auction) (out : List ℕ) : Type 0 where
  pub report : IsTrueReport auction out
  pub pricing : Priced
  pub priced : report.pricing ≡ Some pricing
  pub by_rule : pricing.by_rule ≡ true
  pub no_other : report.others.further ≡ NoOther

-- the winners with nobody left out
abbrev pub winners_of : (auction : Auction) (out : List ℕ) → IsAward auction out → List Choice
winners_of auction out award = slice_index_or award.report.won 0 []

-- the allocation is listed for the group
abbrev pub IsListedFor : List ℕ → List Choice → List (List ℕ) → List (List Choice) → Type 0
IsListedFor group a (h ∷ groups) (b ∷ won) = ((group ≡ h) × (a ≡ b)) ⊎ IsListedFor group a groups won
IsListedFor group a _ _ = ⊥

-- each of these awards is one of those, in whatever order its winners are
abbrev pub AreAmong : List (List Choice) → List (List Choice) → Type 0
AreAmong those these = AllByRecursion (λ a. Any (λ b. IsPermutation b a) those) these

-- two awards have the same winners with the same bids, each winner pays the same whole pounds and has the same exact price, and a group that both list has the same total and cost
pub record AreSameAward (auction auction' : Auction) (out out' : List ℕ) (one : IsAward auction out) (other : IsAward auction' out') : Type 0 where
  pub winners : winners_of auction out one ≡ winners_of auction' out' other
  pub prices : All (λ c. in_pounds one.pricing.parts (price_in one.pricing.prices) c.bidder ≡ in_pounds other.pricing.parts
      (price_in other.pricing.prices) c.bidder) (winners_of auction out one)
  pub exact : AreSame (winners_of auction out one) one.pricing.parts (price_in one.pricing.prices) other.pricing.parts (price_in other.pricing.prices)
  pub groups : (group : List ℕ) (a a' : List Choice) → IsListedFor group a auction.groups one.report.won
      → IsListedFor group a' auction'.groups other.report.won
      → (total auction.sale.lots auction.sale.book a ≡ total auction'.sale.lots auction'.sale.book a')
      × (cost auction.sale.lots auction.sale.book (winners_of auction out one) group a
      ≡ cost auction'.sale.lots auction'.sale.book (winners_of auction' out' other) group a')

-- of two auctions with the same rules and the same last forms both print the same awards, and if they have the same one first, it is the same
-- with its prices and costs: whoever solved, certified and priced, and whichever groups are listed
abbrev pub AwardsFollow : Type 0
AwardsFollow = (auction auction' : Auction) (out out' : List ℕ) (one : IsAward auction out) (other : IsAward auction' out')
    → auction.rules ≡ auction'.rules → auction.sale ≡ auction'.sale
    → AreAmong (winners_of auction out one ∷ one.report.others.awards) (winners_of auction' out' other ∷ other.report.others.awards)
    × (winners_of auction out one ≡ winners_of auction' out' other → AreSameAward auction auction' out out' one other)

-- what is printed last if the prices are those of the rule, and nobody else can win
abbrev pub award_lines : List ℕ
award_lines = codes "by the rule\nunique\n"

-- of two auctions with the same rules and the same last forms, of which true reports end so, the awards are the same, and no other is printed
abbrev pub AwardFollows : Type 0
AwardFollows = (auction auction' : Auction) (before before' : List ℕ) → auction.rules ≡ auction'.rules → auction.sale ≡ auction'.sale
    → IsTrueReport auction (before ++ award_lines) → IsTrueReport auction' (before' ++ award_lines)
    → (one : IsAward auction (before ++ award_lines)) × (other : IsAward auction' (before' ++ award_lines))
    × (one.report.others.awards ≡ []) × (other.report.others.awards ≡ [])
    × AreSameAward auction auction' (before ++ award_lines) (before' ++ award_lines) one other
