-- When prices in parts of a pound suffice: no feasible allocation blocks.
use Rattle.std.specs.Prelude.{◌≡◌, ◌↔◌, ◌+◌, ◌-◌, ◌*◌, ◌≤◌, ◌==◌, ℕ, All, List, false, true, filter, sum_by}
use Rattle.auction_terms.specs.declared.bids.Choice.{Choice}
use Rattle.auction_terms.specs.Packages.{Lots, left, worth}
use Rattle.auction_terms.specs.Allocations.{Book, amount_of, loads, total, IsFeasible, IsSized}
use Rattle.auction_terms.specs.Keeping.{is_kept_choice}
use Rattle.auction_terms.specs.Limits.{IsBook}
use Rattle.outcome.specs.Pricing.{paid}
use Rattle.program_rows.specs.Faithful.{IsGreatest}
use Rattle.prices.specs.Parts.{AreAtLeastReserves, Suffice}

-- each winner's price is at most the amount of its bid
abbrev pub ArePrices : Book → List Choice → ℕ → (ℕ → ℕ) → Type 0
ArePrices book first parts price = All (λ c. price c.bidder ≤ parts * amount_of book c) first

-- the amount of a winning bid, less its bidder's price
abbrev pub gain : Book → ℕ → (ℕ → ℕ) → Choice → ℕ
gain book parts price c = parts * amount_of book c - price c.bidder

-- the surplus of a bidder: the gain of its winning bid; 0 if it wins nothing
abbrev pub surplus : Book → List Choice → ℕ → (ℕ → ℕ) → ℕ → ℕ
surplus book first parts price bidder = sum_by (gain book parts price) (filter (λ c. c.bidder == bidder) first)

-- the surplus, by these prices, of the bidders of another allocation together
abbrev pub surplus_of : Book → List Choice → ℕ → (ℕ → ℕ) → List Choice → ℕ
surplus_of book first parts price a = sum_by (λ c. surplus book first parts price c.bidder) a

-- the seller's revenue: what the winners pay, and the value of the unsold lots
abbrev pub revenue : Lots → Book → List Choice → ℕ → (ℕ → ℕ) → ℕ
revenue lots book first parts price = paid price first + parts * worth lots (left lots.supply (loads lots book first))

-- no feasible allocation blocks: none has a total above the revenue and its bidders' surplus
abbrev pub NoneBlocks : Lots → Book → List Choice → ℕ → (ℕ → ℕ) → Type 0
NoneBlocks lots book first parts price = (a : List Choice) → IsFeasible lots book (λ b. false) a
    → parts * total lots book a ≤ revenue lots book first parts price + surplus_of book first parts price a

-- ---------- laws ----------

-- prices that are at least the reserves suffice if no feasible allocation blocks
abbrev pub UnblockedSuffice : Type 0
UnblockedSuffice = (reserves : List ℕ) (lots : Lots) (book : Book) (first : List Choice) (parts : ℕ) (price : ℕ → ℕ) → IsFeasible lots book (λ b. false) first
    → 1 ≤ parts → ArePrices book first parts price → AreAtLeastReserves reserves book first parts price
    → NoneBlocks lots book first parts price → Suffice reserves lots book first parts price

-- the winners' allocation is of greatest total if no feasible allocation blocks
abbrev pub UnblockedIsGreatest : Type 0
UnblockedIsGreatest = (lots : Lots) (book : Book) (first : List Choice) (parts : ℕ) (price : ℕ → ℕ) → IsFeasible lots book (λ b. false) first
    → 1 ≤ parts → ArePrices book first parts price → NoneBlocks lots book first parts price → IsGreatest lots book (λ b. false) first

-- no allocation blocks if none of kept bids does
abbrev pub KeptBidsSuffice : Type 0
KeptBidsSuffice = (lots : Lots) (book : Book) (first : List Choice) (parts : ℕ) (price : ℕ → ℕ) → IsSized lots book
    → ((a : List Choice) → IsFeasible lots book (λ b. false) a → All (λ c. is_kept_choice lots book (λ b. false) c ≡ true) a
    → parts * total lots book a ≤ revenue lots book first parts price + surplus_of book first parts price a)
    → NoneBlocks lots book first parts price

-- prices that are at least the reserves suffice if and only if no feasible allocation blocks
abbrev pub SufficeIffNoneBlocks : Type 0
SufficeIffNoneBlocks = (reserves : List ℕ) (lots : Lots) (book : Book) (first : List Choice) (parts : ℕ) (price : ℕ → ℕ) → IsBook lots book
    → IsFeasible lots book (λ b. false) first → 1 ≤ parts → ArePrices book first parts price → AreAtLeastReserves reserves book first parts price
    → Suffice reserves lots book first parts price ↔ NoneBlocks lots book first parts price
