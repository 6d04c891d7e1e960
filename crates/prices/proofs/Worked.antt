-- Worked prices, which the definitions compute.
use Rattle.std.proofs.Common.{◌≡◌, ℕ, List, [], ◌∷◌, map, true, false, None, Option, Some, Ok, Err, pos, negsuc, arith}
use Rattle.std.specs.Fmt.{digits}
use Rattle.std.specs.Prelude.{codes}
use Rattle.auction_terms.specs.declared.bids.Bid.{Bid}
use Rattle.auction_terms.specs.declared.bids.Choice.{Choice}
use Rattle.auction_terms.specs.Packages.{Lots}
use Rattle.auction_terms.specs.Allocations.{Book, total}
use Rattle.optimality.specs.Verdict.{certificate_fault}
use Rattle.auction_terms.specs.LineFields.{fields}
use Rattle.auction_terms.specs.Decimals.{number}
use Rattle.outcome.specs.Report.{cost}
use Rattle.program_rows.specs.declared.certificate_fault.CertificateFaultKind.{CertificateFaultKind}
use Rattle.program_rows.specs.declared.certificate_fault.CertificateFaultKind.TheVariants.{NotShown}
use Rattle.program_rows.specs.Points.{objective}
use Rattle.program_rows.specs.Spelling.{column_bid}
use Rattle.outcome.specs.Pricing.{paid, price_in}
use Rattle.prices.specs.inside.Weighing.{weight_by}
use Rattle.prices.specs.Blocking.{revenue, surplus, surplus_of}
use Rattle.prices.specs.Prices.{paid_by_group}
use Rattle.prices.specs.Raised.{cover_fault, raised_bound, raised_program}
use Rattle.prices.specs.declared.alone.AloneFault.TheVariants.{NotListed}
use Rattle.prices.specs.declared.rule.RuleFault.{RuleFault}
use Rattle.prices.specs.declared.rule.RuleFault.TheVariants.{NotLeast, NotNearest}
use Rattle.prices.specs.Alone.{costs_alone}
use Rattle.outcome.specs.Pricing.{in_pounds}
use Rattle.prices.specs.Rule.{Rule, rule_fault}
use Rattle.prices.specs.Weights.{Weights, listed_weights, weight_on, weighted}

abbrev choice : ℕ → ℕ → Choice
choice bidder bid = record { bidder = bidder; bid = bid }

-- two lots of a category and one of another; nothing is left where all three bidders win
abbrev lots : Lots
lots = record { supply = 2 ∷ 1 ∷ []; values = 0 ∷ 0 ∷ []; pools = [] }

abbrev bid : ℕ → ℕ → ℕ → Bid
bid a b amount = record { «package» = a ∷ b ∷ []; amount = amount }

abbrev book : Book
book = (bid 1 0 30 ∷ bid 2 1 50 ∷ bid 1 1 28 ∷ []) ∷ (bid 1 0 20 ∷ bid 3 0 45 ∷ []) ∷ (bid 0 1 12 ∷ []) ∷ []

abbrev first : List Choice
first = choice 1 1 ∷ choice 2 1 ∷ choice 3 1 ∷ []

-- without bidders 2 and 3
abbrev alone : List Choice
alone = choice 1 2 ∷ []

abbrev prices : ℕ → ℕ
prices = price_in (0 ∷ 14 ∷ 6 ∷ [])

-- as `tools/certify` writes it
abbrev cover : List ℕ
cover = codes "split 0 X1_1 1\nsplit 0 X1_2 1\nbound 1 0 14 B2 14 C2 6\nbound 1 0 14 C1 14 C2 6\nbound 1 7 B2 7 C1 7 C2 6\n"

-- the columns X1_1, X1_2, X2_1 and X3_1: the others are dropped
record Worked : Type 0 where
  sum : paid prices first ≡ 20
  of_two : paid_by_group prices (2 ∷ 3 ∷ []) first ≡ 20
  costs : cost lots book first (2 ∷ 3 ∷ []) alone ≡ pos 20
  keeps : map (surplus book first 1 prices) (0 ∷ 1 ∷ 2 ∷ 3 ∷ 4 ∷ []) ≡ 0 ∷ 30 ∷ 6 ∷ 6 ∷ 0 ∷ []
  has : revenue lots book first 1 prices ≡ 20
  -- as much as the revenue and bidder 1's surplus
  ties : total lots book alone ≡ 50
  keeps_alone : surplus_of book first 1 prices alone ≡ 30
  raised_costs : map (λ c. c.cost) (raised_program lots book first 1 prices).columns ≡ pos 0 ∷ negsuc 19 ∷ negsuc 13 ∷ negsuc 5 ∷ []
  objective_first : objective (raised_program lots book first 1 prices) (true ∷ false ∷ true ∷ true ∷ []) ≡ negsuc 19
  covers : certificate_fault (raised_program lots book first 1 prices) (negsuc 19) cover ≡ None
  -- a pound less for bidder 2: then bidders 2 and 3 pay 19, and cost 20
  too_low : certificate_fault (raised_program lots book first 1 (price_in (0 ∷ 13 ∷ 6 ∷ []))) (negsuc 18) cover ≡ Some (3, NotShown)

worked : Worked
unfolding column_bid digits number fields
worked = grind arith

-- a lot that is left is worth 4, and so one that is won costs 4 at least
abbrev valued : Lots
valued = record { supply = 2 ∷ []; values = 4 ∷ []; pools = [] }

abbrev one : Book
one = (record { «package» = 1 ∷ []; amount = 10 } ∷ []) ∷ []

record Valued : Type 0 where
  costs : cost valued one (choice 1 1 ∷ []) (1 ∷ []) [] ≡ pos 4
  has : revenue valued one (choice 1 1 ∷ []) 1 (price_in (4 ∷ [])) ≡ 8
  raised_costs : map (λ c. c.cost) (raised_program valued one (choice 1 1 ∷ []) 1 (price_in (4 ∷ []))).columns ≡ pos 0 ∷ pos 0 ∷ []
  -- all lots are worth 8
  bound : raised_bound valued one (choice 1 1 ∷ []) 1 (price_in (4 ∷ [])) ≡ pos 0
  covers : cover_fault valued one (choice 1 1 ∷ []) 1 (price_in (4 ∷ [])) (codes "bound 1") ≡ None
  -- by 3 the column would cost -6 and 7 more
  bound_low : raised_bound valued one (choice 1 1 ∷ []) 1 (price_in (3 ∷ [])) ≡ pos 1
  too_low : cover_fault valued one (choice 1 1 ∷ []) 1 (price_in (3 ∷ [])) (codes "bound 1") ≡ Some (1, NotShown)
  -- a scale of 1, and a weight of 1 on the group of bidder 1
  weighs : weight_on (weighted ([] ∷ (1 ∷ []) ∷ []) ((choice 1 1 ∷ []) ∷ [] ∷ []) (0 ∷ 1 ∷ [])) 1 ≡ 1
  weighs_listed : weight_by ([] ∷ (1 ∷ []) ∷ []) (0 ∷ 1 ∷ []) 1 ≡ 1

valued_is : Valued
unfolding column_bid digits number fields
valued_is = grind arith

-- ---------- the prices of the rule ----------

-- Beta and Gamma share what both cost, each as far above its reserve
abbrev reserves : List ℕ
reserves = 10 ∷ 5 ∷ []

abbrev groups : List (List ℕ)
groups = [] ∷ (1 ∷ []) ∷ (2 ∷ []) ∷ (3 ∷ []) ∷ (2 ∷ 3 ∷ []) ∷ []

abbrev won : List (List Choice)
won = first ∷ (choice 2 1 ∷ choice 3 1 ∷ []) ∷ (choice 1 2 ∷ []) ∷ (choice 1 2 ∷ []) ∷ (choice 1 2 ∷ []) ∷ []

-- 10, 12 1/2 and 7 1/2
abbrev halves : ℕ → ℕ
halves = price_in (20 ∷ 25 ∷ 15 ∷ [])

abbrev weighed_by : ℕ → List ℕ → List ℕ → Weights
weighed_by scale weights own = listed_weights groups won scale weights own

abbrev least : Weights
least = weighed_by 1 (0 ∷ 0 ∷ 0 ∷ 0 ∷ 1 ∷ []) (1 ∷ 0 ∷ 0 ∷ [])

abbrev fault_of : (ℕ → ℕ) → Weights → ℕ → Option RuleFault
fault_of price nearest push =
    rule_fault reserves lots book first (price_in (10 ∷ 10 ∷ 5 ∷ [])) 2 price (record { least = least; nearest = nearest; push = push })

abbrev halves_cover : List ℕ
halves_cover = codes "split 0 X1_1 1\nsplit 0 X1_2 1\nbound 1 20 45 B2 25 C2 15\nbound 1 0 5 C1 25 C2 15\nbound 1 25 B1 45 B2 25 C2 15\n"

record InHalves : Type 0 where
  alone_costs : costs_alone reserves lots book first groups won ≡ Ok (10 ∷ 10 ∷ 5 ∷ [])
  -- Gamma isn't listed alone, but with Beta
  not_listed : costs_alone reserves lots book first ([] ∷ (1 ∷ []) ∷ (2 ∷ []) ∷ (2 ∷ 3 ∷ []) ∷ []) won ≡ Err (NotListed 3)
  shown : fault_of halves (weighed_by 1 (0 ∷ 0 ∷ 0 ∷ 0 ∷ 5 ∷ []) []) 0 ≡ None
  -- Alpha's own weight may be more by as much as the push, and then the group's too
  pushed_too : fault_of halves (weighed_by 1 (0 ∷ 0 ∷ 0 ∷ 0 ∷ 7 ∷ []) (2 ∷ [])) 2 ≡ None
  pushed : fault_of halves (weighed_by 1 (0 ∷ 0 ∷ 0 ∷ 0 ∷ 5 ∷ []) []) 1 ≡ Some NotNearest
  heavier : fault_of halves (weighed_by 1 (0 ∷ 0 ∷ 0 ∷ 0 ∷ 6 ∷ []) []) 0 ≡ Some NotNearest
  -- Beta alone pays 12 1/2, and costs 8
  slack : fault_of halves (weighed_by 1 (0 ∷ 0 ∷ 5 ∷ 5 ∷ 0 ∷ []) []) 0 ≡ Some NotNearest
  -- of the same sum, but not as near
  whole : fault_of (price_in (20 ∷ 28 ∷ 12 ∷ [])) (weighed_by 1 (0 ∷ 0 ∷ 0 ∷ 0 ∷ 5 ∷ []) []) 0 ≡ Some NotNearest
  -- a part more than the group costs
  dearer : fault_of (price_in (20 ∷ 26 ∷ 15 ∷ [])) (weighed_by 1 (0 ∷ 0 ∷ 0 ∷ 0 ∷ 5 ∷ []) []) 0 ≡ Some NotLeast
  revenue_in_parts : revenue lots book first 2 halves ≡ 60
  in_parts : map (λ c. c.cost) (raised_program lots book first 2 halves).columns ≡ negsuc 19 ∷ negsuc 59 ∷ negsuc 24 ∷ negsuc 14 ∷ []
  covers : cover_fault lots book first 2 halves halves_cover ≡ None
  -- a part less for Beta: then both pay 39 parts, and cost 40
  too_low : cover_fault lots book first 2 (price_in (20 ∷ 24 ∷ 15 ∷ [])) halves_cover ≡ Some (4, NotShown)
  paid_in_pounds : map (in_pounds 2 halves) (1 ∷ 2 ∷ 3 ∷ []) ≡ 10 ∷ 13 ∷ 8 ∷ []

in_halves : InHalves
unfolding column_bid digits number fields
in_halves = grind arith

-- three lots, three bidders who bid 20 for one, and three who bid 15 for two
abbrev three_lots : Lots
three_lots = record { supply = 3 ∷ []; values = 0 ∷ []; pools = [] }

abbrev form : ℕ → ℕ → List Bid
form quantity amount = record { «package» = quantity ∷ []; amount = amount } ∷ []

abbrev alike : Book
alike = form 1 20 ∷ form 1 20 ∷ form 1 20 ∷ form 2 15 ∷ form 2 15 ∷ form 2 15 ∷ []

abbrev pairs : List (List ℕ)
pairs = [] ∷ (1 ∷ []) ∷ (2 ∷ []) ∷ (3 ∷ []) ∷ (1 ∷ 2 ∷ []) ∷ (1 ∷ 3 ∷ []) ∷ (2 ∷ 3 ∷ []) ∷ []

abbrev pairs_won : List (List Choice)
pairs_won = first ∷ (choice 2 1 ∷ choice 3 1 ∷ []) ∷ (choice 1 1 ∷ choice 3 1 ∷ []) ∷ (choice 1 1 ∷ choice 2 1 ∷ [])
    ∷ (choice 3 1 ∷ choice 4 1 ∷ []) ∷ (choice 2 1 ∷ choice 4 1 ∷ []) ∷ (choice 1 1 ∷ choice 4 1 ∷ []) ∷ []

-- 7 1/2 each
abbrev alike_prices : ℕ → ℕ
alike_prices = price_in (15 ∷ 15 ∷ 15 ∷ [])

abbrev alike_rule : ℕ → Rule
alike_rule push = record {
  least = listed_weights pairs pairs_won 2 (0 ∷ 0 ∷ 0 ∷ 0 ∷ 1 ∷ 1 ∷ 1 ∷ []) [];
  nearest = listed_weights pairs pairs_won 1 (0 ∷ 0 ∷ 0 ∷ 0 ∷ 15 ∷ 15 ∷ 15 ∷ []) [];
  push = push;
}

record Alike : Type 0 where
  alone_costs : costs_alone (0 ∷ []) three_lots alike first pairs pairs_won ≡ Ok (0 ∷ 0 ∷ 0 ∷ 0 ∷ 0 ∷ 0 ∷ [])
  shown : rule_fault (0 ∷ []) three_lots alike first (λ b. 0) 2 alike_prices (alike_rule 15) ≡ None
  pushed : rule_fault (0 ∷ []) three_lots alike first (λ b. 0) 2 alike_prices (alike_rule 14) ≡ Some NotNearest
  -- 7, 8 and 8: two of them pay 32 parts, and cost 30
  whole : rule_fault (0 ∷ []) three_lots alike first (λ b. 0) 2 (price_in (14 ∷ 16 ∷ 16 ∷ [])) (alike_rule 15) ≡ Some NotLeast
  covers : cover_fault three_lots alike first 2 alike_prices (codes "bound 1 C1 15") ≡ None
  too_low : cover_fault three_lots alike first 2 (price_in (15 ∷ 15 ∷ 14 ∷ [])) (codes "bound 1 C1 15") ≡ Some (1, NotShown)
  paid_in_pounds : map (in_pounds 2 alike_prices) (1 ∷ 2 ∷ 3 ∷ []) ≡ 8 ∷ 8 ∷ 8 ∷ []

alike_is : Alike
unfolding column_bid digits number fields
alike_is = grind arith

-- nobody bids, nobody wins, and nothing is paid
abbrev nothing : Weights
nothing = listed_weights ([] ∷ []) ([] ∷ []) 1 (0 ∷ []) []

record NoWinner : Type 0 where
  alone_costs : costs_alone (0 ∷ []) three_lots ([] ∷ []) [] ([] ∷ []) ([] ∷ []) ≡ Ok (0 ∷ [])
  shown : rule_fault (0 ∷ []) three_lots ([] ∷ []) [] (λ b. 0) 1 (λ b. 0) (record { least = nothing; nearest = nothing; push = 0 }) ≡ None
  covers : cover_fault three_lots ([] ∷ []) [] 1 (λ b. 0) (codes "bound 1") ≡ None

no_winner : NoWinner
unfolding column_bid digits number fields
no_winner = grind arith

-- 10,000 lots that are worth a million millions each where they are left, and one of another category, for which two bid; in parts of
-- which 1,000 make a pound, all lots are worth 10^19
abbrev dear : Lots
dear = record { supply = 10000 ∷ 1 ∷ []; values = 1000000000000 ∷ 0 ∷ []; pools = [] }

abbrev two : Book
two = (bid 0 1 30 ∷ []) ∷ (bid 0 1 20 ∷ []) ∷ []

abbrev dear_fault : ℕ → List ℕ → Option (ℕ × CertificateFaultKind)
dear_fault price text = cover_fault dear two (choice 1 1 ∷ []) 1000 (price_in (price ∷ [])) text

record Dear : Type 0 where
  raised_costs : map (λ c. c.cost) (raised_program dear two (choice 1 1 ∷ []) 1000 (price_in (20001 ∷ []))).columns
      ≡ negsuc 20000 ∷ negsuc 19999 ∷ pos 0 ∷ []
  bound : raised_bound dear two (choice 1 1 ∷ []) 1000 (price_in (20001 ∷ [])) ≡ negsuc 20000
  covers : dear_fault 20001 (codes "bound 1 C2 20001") ≡ None
  covers_least : dear_fault 20000 (codes "bound 1 C2 20000") ≡ None
  -- by a part less the other one would be worth more
  too_low : dear_fault 19999 (codes "bound 1 C2 20000") ≡ Some (1, NotShown)

dear_is : Dear
unfolding column_bid digits number fields
dear_is = grind arith
