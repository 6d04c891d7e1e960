-- Worked solutions, which the definitions compute.
use Rattle.std.proofs.Common.{arith}
use Rattle.std.specs.Fmt.{digits}
use Rattle.std.specs.Prelude.{◌≡◌, ℕ, List, [], ◌∷◌, map, true, false, negsuc, Ok, Err, codes}
use Rattle.program_rows.specs.Points.{objective}
use Rattle.auction_terms.specs.LineFields.{fields}
use Rattle.program_rows.specs.Spelling.{column_bid}
use Rattle.auction_terms.specs.FirstFault.{first_fault}
use Rattle.auction_terms.specs.declared.bids.Bid.{Bid}
use Rattle.auction_terms.specs.declared.bids.Choice.{Choice}
use Rattle.auction_terms.specs.Packages.{Lots}
use Rattle.auction_terms.specs.Allocations.{Book}
use Rattle.auction_terms.specs.Keeping.{kept_of}
use Rattle.program_rows.specs.Program.{Table}
use Rattle.program_rows.specs.Rows.{program_of}
use Rattle.outcome.specs.declared.solution_values.ValueFault.TheVariants as value
use Rattle.program_rows.specs.declared.solution_fault.SolutionFault.TheVariants as fault
use Rattle.outcome.specs.SolutionValues.{is_near}
use Rattle.outcome.specs.inside.SolutionValues.{token_value}
use Rattle.outcome.specs.Solution.{solution}
use Rattle.outcome.specs.PointAllocation.{allocation_of}
use Rattle.bid_desk.specs.Sale.{Sale}
use Rattle.outcome.specs.Report.{allocation_text, report_text}
use Rattle.outcome.proofs.WorkedPrograms.{fixed, three, winners}

-- ---- values

record ValuesOfTokens : Type 0 where
  near_zero : token_value (codes "1e-5") ≡ Ok false
  below_zero : token_value (codes "-0.00001") ≡ Ok false
  above_one : token_value (codes "1.00001") ≡ Ok true
  below_one : token_value (codes "0.99999") ≡ Ok true
  below_one_long : token_value (codes "0.99999000000000000000000000000") ≡ Ok true
  above_tolerance : token_value (codes "0.00001001") ≡ Err value.NotZeroOne
  great : token_value (codes "1e60") ≡ Err value.NotZeroOne
  too_great : token_value (codes "1e61") ≡ Err value.ValueText
  below_tolerance : token_value (codes "0.99998999999999999999999999999") ≡ Err value.NotZeroOne
  minus_one : token_value (codes "-1") ≡ Err value.NotZeroOne
  minus_zero : token_value (codes "-0e-60") ≡ Ok false
  word : token_value (codes "one") ≡ Err value.ValueText

values_of_tokens : ValuesOfTokens
unfolding token_value
values_of_tokens = grind arith

-- ---- solutions against the program of three bidders

record SolutionsOfThree : Type 0 where
  won : solution three (codes "X1_1 0.999999\nX2_1 1\nX3_1 1\n") ≡ Ok winners
  objective_won : objective three winners ≡ negsuc 61
  comes_back : allocation_of three winners ≡ record { bidder = 1; bid = 1 } ∷ record { bidder = 2; bid = 1 } ∷ record { bidder = 3; bid = 1 } ∷ []
  two_bids : solution three (codes "X1_1 1\nX1_2 1\n") ≡ Err (fault.RowBroken 0)
  not_zero_one : solution three (codes "X1_1 0.9\n") ≡ Err (fault.NotZeroOne 1)
  end_of_tolerance : solution three (codes "X1_1 0.99999\n") ≡ Ok (true ∷ false ∷ false ∷ false ∷ [])
  unknown : solution three (codes "X1_3 1\n") ≡ Err (fault.UnknownColumn 1)
  no_bytes : solution three [] ≡ Ok (false ∷ false ∷ false ∷ false ∷ [])
  repeated : solution three (codes "X1_1 1\nX1_1 1") ≡ Err (fault.RepeatedColumn 2)
  three_fields : solution three (codes "X1_1 1 2") ≡ Err (fault.Fields 1)
  no_number : solution three (codes "X1_1 one") ≡ Err (fault.ValueText 1)
  first_line : solution three (codes "X1_1 0.9\nQ 1\n") ≡ Err (fault.NotZeroOne 1)
  two_returns : solution three (codes "X1_1 1\r\r\n") ≡ Err (fault.ValueText 1)
  skipped_lines : solution three (codes "# status optimal\n\n \t\r\nX1_1\t1\r\n") ≡ Ok (true ∷ false ∷ false ∷ false ∷ [])
  bound_broken : solution fixed [] ≡ Err (fault.BoundBroken 0)

solutions_of_three : SolutionsOfThree
unfolding solution fields first_fault is_near column_bid digits
solutions_of_three = grind arith

-- ---- reports

abbrev bid : ℕ → ℕ → ℕ → Bid
bid amount a b = record { «package» = a ∷ b ∷ []; amount = amount }

abbrev book : Book
book = (bid 30 1 0 ∷ bid 50 2 1 ∷ bid 28 1 1 ∷ []) ∷ (bid 20 1 0 ∷ bid 45 3 0 ∷ []) ∷ (bid 12 0 1 ∷ []) ∷ []

-- two lots of the first category, one of the second; a lot of the first that is left is worth so much
abbrev valued : ℕ → Lots
valued value = record { supply = 2 ∷ 1 ∷ []; values = value ∷ 0 ∷ []; pools = [] }

-- a pool of both categories
abbrev pooled : ℕ → ℕ → Lots
pooled cap weight = record { supply = 2 ∷ 1 ∷ []; values = 0 ∷ 0 ∷ []; pools = record { cap = cap; weights = weight ∷ 1 ∷ [] } ∷ [] }

abbrev sale_of_lots : Lots → Sale
sale_of_lots lots = record { names = codes "Alpha" ∷ codes "Beta" ∷ codes "Gamma" ∷ []; lots = lots; book = book }

abbrev sale : Sale
sale = sale_of_lots (valued 0)

abbrev all_win : List Choice
all_win = record { bidder = 1; bid = 1 } ∷ record { bidder = 2; bid = 1 } ∷ record { bidder = 3; bid = 1 } ∷ []

abbrev alpha_wins : List Choice
alpha_wins = record { bidder = 1; bid = 2 } ∷ []

abbrev gamma_wins : List Choice
gamma_wins = record { bidder = 3; bid = 1 } ∷ []

record ReportsOfThree : Type 0 where
  allocation : allocation_text sale all_win ≡ codes "Alpha 1 30\nBeta 1 20\nGamma 1 12\ntotal 62\n"
  report : report_text sale ([] ∷ (2 ∷ []) ∷ []) (all_win ∷ alpha_wins ∷ [])
      ≡ codes "group 1 -\nAlpha 1 30\nBeta 1 20\nGamma 1 12\ntotal 62\ncost 0\ngroup 2 Beta\nAlpha 2 50\ntotal 50\ncost 8\n"
  negative_cost : report_text sale ([] ∷ (2 ∷ []) ∷ []) (alpha_wins ∷ gamma_wins ∷ [])
      ≡ codes "group 1 -\nAlpha 2 50\ntotal 50\ncost 0\ngroup 2 Beta\nGamma 1 12\ntotal 12\ncost -38\n"
  two_names : report_text sale ([] ∷ (1 ∷ 3 ∷ []) ∷ []) (alpha_wins ∷ [] ∷ [])
      ≡ codes "group 1 -\nAlpha 2 50\ntotal 50\ncost 0\ngroup 2 Alpha+Gamma\ntotal 0\ncost 0\n"

reports_of_three : ReportsOfThree
unfolding digits
reports_of_three = grind arith

-- ---- lots that are left have a value

abbrev program : Lots → Table
program lots = program_of lots (kept_of lots book (λ b. false))

abbrev alpha_and_gamma : List Choice
alpha_and_gamma = record { bidder = 1; bid = 1 } ∷ record { bidder = 3; bid = 1 } ∷ []

abbrev alpha_and_beta : List Choice
alpha_and_beta = record { bidder = 1; bid = 1 } ∷ record { bidder = 2; bid = 1 } ∷ []

record ValuedLots : Type 0 where
  -- the fixed column has to be named
  constant_missing : solution (program (valued 40)) (codes "X3_1 1\n") ≡ Err (fault.BoundBroken 1)
  constant_named : solution (program (valued 40)) (codes "X3_1 1\nK 1\n") ≡ Ok (true ∷ true ∷ [])
  -- and wins nothing
  constant_wins_nothing : allocation_of (program (valued 40)) (true ∷ true ∷ []) ≡ gamma_wins
  nothing_won : allocation_of (program (valued 40)) (false ∷ true ∷ []) ≡ []
  valued_report : report_text (sale_of_lots (valued 40)) ([] ∷ (3 ∷ []) ∷ []) (gamma_wins ∷ [] ∷ [])
      ≡ codes "group 1 -\nGamma 1 12\ntotal 92\ncost 0\ngroup 2 Gamma\ntotal 80\ncost 0\n"
  one_is_left : allocation_text (sale_of_lots (valued 20)) alpha_and_gamma ≡ codes "Alpha 1 30\nGamma 1 12\ntotal 62\n"
  -- lots sold twice leave none, and no fewer
  too_many_sold : allocation_text (sale_of_lots (valued 20)) (record { bidder = 2; bid = 2 } ∷ []) ≡ codes "Beta 2 45\ntotal 45\n"

valued_lots : ValuedLots
unfolding solution fields first_fault is_near column_bid digits
valued_lots = grind arith

-- ---- pools

record Pools : Type 0 where
  pool_broken : solution (program (pooled 2 1)) (codes "X1_1 0.999999\nX2_1 1\nX3_1 1\n") ≡ Err (fault.RowBroken 5)
  row_of_the_pool : map (λ r. r.name) (program (pooled 2 1)).rows ≡ codes "B1" ∷ codes "B2" ∷ codes "B3" ∷ codes "C1" ∷ codes "C2" ∷ codes "P1" ∷ []
  pool_met : solution (program (pooled 2 1)) (codes "X1_1 1\nX2_1 1\n") ≡ Ok (true ∷ true ∷ false ∷ [])
  pooled_allocation : allocation_text (sale_of_lots (pooled 2 1)) alpha_and_beta ≡ codes "Alpha 1 30\nBeta 1 20\ntotal 50\n"
  heavy_pool_broken : solution (program (pooled 3 2)) (codes "X1_1 1\nX2_1 1\n") ≡ Err (fault.RowBroken 5)
  heavy_allocation : allocation_text (sale_of_lots (pooled 3 2)) alpha_and_gamma ≡ codes "Alpha 1 30\nGamma 1 12\ntotal 42\n"

pools : Pools
unfolding solution fields first_fault is_near digits
pools = grind arith
