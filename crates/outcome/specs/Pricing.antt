-- What the winners pay, as it is printed: the price of each, the sum, and whether these are the prices of the rule.
use Rattle.std.specs.Prelude.{ℕ, zero, suc, ◌*◌, ◌==◌, Bool, List, [], ◌∷◌, ◌++◌, Option, None, Some, codes, decimal, flat_map, slice_index, sum_by, if◌then◌else◌}
use Rattle.std.specs.Int.{div_ceil}
use Rattle.auction_terms.specs.Fractions.{fraction_text}
use Rattle.auction_terms.specs.declared.bids.Choice.{Choice}
use Rattle.bid_desk.specs.Sale.{Sale, bidder_name}

-- the price of a bidder, by a list with the price of bidder 1 first; 0 for a bidder beyond its end
abbrev pub price_in : List ℕ → ℕ → ℕ
price_in prices zero = 0
price_in prices (suc b) = slice_index prices b

-- what the winners of an allocation pay together, by each bidder's price
abbrev pub paid : (ℕ → ℕ) → List Choice → ℕ
paid price a = sum_by (λ c. price c.bidder) a

-- a price in pounds, rounded up
abbrev pub in_pounds : ℕ → (ℕ → ℕ) → ℕ → ℕ
in_pounds parts price b = div_ceil (price b) parts

-- how many parts make a pound, the prices in parts, bidder 1's first, and whether they are shown to be the prices of the rule
pub record Priced : Type 0 where
  pub parts : ℕ
  pub prices : List ℕ
  pub by_rule : Bool

-- the exact amount, which is given in parts, if it is another one than the pounds that are paid
abbrev pub exact_text : ℕ → ℕ → ℕ → List ℕ
exact_text parts pounds exact = if parts * pounds == exact then [] else 32 ∷ fraction_text parts exact

-- what is paid, and the exact amount if it is another one
abbrev pub amount_text : ℕ → ℕ → ℕ → List ℕ
amount_text parts pounds exact = decimal pounds ++ exact_text parts pounds exact

-- name and price of a winner
abbrev pub price_line : Sale → Priced → Choice → List ℕ
price_line sale p c =
    bidder_name sale.names c.bidder ++ (32 ∷ (amount_text p.parts (in_pounds p.parts (price_in p.prices) c.bidder) (price_in p.prices c.bidder) ++ 10 ∷ []))

-- the line of the sum of what is paid
abbrev pub sum_line : Priced → List Choice → List ℕ
sum_line p first = codes "sum " ++ (amount_text p.parts (paid (in_pounds p.parts (price_in p.prices)) first) (paid (price_in p.prices) first) ++ 10 ∷ [])

-- the last line, if these are the prices of the rule
abbrev pub rule_line : Bool → List ℕ
rule_line by_rule = if by_rule then codes "by the rule\n" else []

-- a line for each winner, the sum, and perhaps that these are the prices of the rule; nothing if there are no prices
abbrev pub pricing_text : Sale → List Choice → Option Priced → List ℕ
pricing_text sale first None = []
pricing_text sale first (Some p) = codes "prices\n" ++ (flat_map (price_line sale p) first ++ (sum_line p first ++ rule_line p.by_rule))
