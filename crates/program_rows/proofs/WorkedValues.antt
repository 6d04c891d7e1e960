-- Small auctions with values of lots that are left, and with pools: the definitions compute.
use Rattle.std.proofs.Common.{◌≡◌, ℕ, Bool, true, false, List, [], ◌∷◌, map, Some, None, refl, ℤ, pos, negsuc}
use Rattle.std.specs.Prelude.{◌==◌, codes}
use Rattle.std.specs.Fmt.{digits}
use Rattle.auction_terms.specs.declared.bids.Bid.{Bid}
use Rattle.auction_terms.specs.declared.bids.Choice.{Choice}
use Rattle.auction_terms.specs.Packages.{Lots, fits}
use Rattle.auction_terms.specs.Allocations.{Book, total}
use Rattle.auction_terms.specs.Keeping.{kept_of}
use Rattle.program_rows.specs.declared.row.RowKind.TheVariants.{AtMost}
use Rattle.program_rows.specs.declared.column.Bounds.TheVariants.{ZeroOrOne, One}
use Rattle.program_rows.specs.Program.{Table, TableColumn}
use Rattle.program_rows.specs.Points.{broken_row, objective}
use Rattle.program_rows.specs.Spelling.{column_bid}
use Rattle.program_rows.specs.Faithful.{back}
use Rattle.program_rows.specs.Rows.{program_of}

abbrev bid : ℕ → List ℕ → Bid
bid pounds quantities = record { «package» = quantities; amount = pounds }

abbrev choice : ℕ → ℕ → Choice
choice bidder bid = record { bidder = bidder; bid = bid }

-- Alpha: 30 for an A, 50 for two and a B, 28 for one and a B. Beta: 20 for an A, 45 for three. Gamma: 12 for a B
abbrev book : Book
book =
    (bid 30 (1 ∷ 0 ∷ []) ∷ bid 50 (2 ∷ 1 ∷ []) ∷ bid 28 (1 ∷ 1 ∷ []) ∷ [])
    ∷ (bid 20 (1 ∷ 0 ∷ []) ∷ bid 45 (3 ∷ 0 ∷ []) ∷ [])
    ∷ (bid 12 (0 ∷ 1 ∷ []) ∷ [])
    ∷ []

abbrev nobody : ℕ → Bool
nobody bidder = false

-- two lots of A and one of B; each unsold lot of A has this value
abbrev valued : ℕ → Lots
valued value = record { supply = 2 ∷ 1 ∷ []; values = value ∷ 0 ∷ []; pools = [] }

-- the same with one pool, and no value of unsold lots
abbrev pooled : ℕ → ℕ → Lots
pooled cap weight = record { supply = 2 ∷ 1 ∷ []; values = 0 ∷ 0 ∷ []; pools = record { cap = cap; weights = weight ∷ 1 ∷ [] } ∷ [] }

abbrev program : Lots → Table
program lots = program_of lots (kept_of lots book nobody)

abbrev priced : TableColumn → List ℕ × ℤ
priced c = (c.name, c.cost)

abbrev entry : ℕ → ℕ × ℤ
entry row = (row, pos 1)

-- ---------- at 40 for a lot of A only Gamma pays ----------

program_at_40 : program (valued 40) ≡ record {
  objective = codes "OBJ";
  rows = record { name = codes "B3"; kind = AtMost; right_side = pos 1 } ∷ record { name = codes "C1"; kind = AtMost; right_side = pos 2 } ∷
      record { name = codes "C2"; kind = AtMost; right_side = pos 1 } ∷ [];
  columns =
      record { name = codes "X3_1"; bounds = ZeroOrOne; cost = negsuc 11; entries = entry 0 ∷ entry 2 ∷ [] }
      ∷ record { name = codes "K"; bounds = One; cost = negsuc 79; entries = [] }
      ∷ [];
}
unfolding digits
program_at_40 = refl

total_at_40 : total (valued 40) book (choice 3 1 ∷ []) ≡ 92
total_at_40 = refl

point_at_40 : objective (program (valued 40)) (true ∷ true ∷ []) ≡ negsuc 91
point_at_40 = refl

nothing_sold : total (valued 40) book [] ≡ 80
nothing_sold = refl

-- without Gamma nobody pays, and all lots are left
program_without_gamma : program_of (valued 40) (kept_of (valued 40) book (λ bidder. bidder == 3)) ≡ record {
  objective = codes "OBJ";
  rows = record { name = codes "C1"; kind = AtMost; right_side = pos 2 } ∷ record { name = codes "C2"; kind = AtMost; right_side = pos 1 } ∷ [];
  columns = record { name = codes "K"; bounds = One; cost = negsuc 79; entries = [] } ∷ [];
}
unfolding digits
program_without_gamma = refl

-- ---------- at 20 Alpha's second bid is dominated by net, and Beta's is kept at net 0 ----------

program_at_20 : program (valued 20) ≡ record {
  objective = codes "OBJ";
  rows =
      record { name = codes "B1"; kind = AtMost; right_side = pos 1 }
      ∷ record { name = codes "B2"; kind = AtMost; right_side = pos 1 }
      ∷ record { name = codes "B3"; kind = AtMost; right_side = pos 1 }
      ∷ record { name = codes "C1"; kind = AtMost; right_side = pos 2 }
      ∷ record { name = codes "C2"; kind = AtMost; right_side = pos 1 }
      ∷ [];
  columns =
      record { name = codes "X1_1"; bounds = ZeroOrOne; cost = negsuc 9; entries = entry 0 ∷ entry 3 ∷ [] }
      ∷ record { name = codes "X2_1"; bounds = ZeroOrOne; cost = pos 0; entries = entry 1 ∷ entry 3 ∷ [] }
      ∷ record { name = codes "X3_1"; bounds = ZeroOrOne; cost = negsuc 11; entries = entry 2 ∷ entry 4 ∷ [] }
      ∷ record { name = codes "K"; bounds = One; cost = negsuc 39; entries = [] }
      ∷ [];
}
unfolding digits
program_at_20 = refl

point_at_20 : objective (program (valued 20)) (true ∷ false ∷ true ∷ true ∷ []) ≡ negsuc 61
point_at_20 = refl

total_at_20 : total (valued 20) book (choice 1 1 ∷ choice 3 1 ∷ []) ≡ 62
total_at_20 = refl

back_at_20 : back (program (valued 20)).columns (true ∷ false ∷ true ∷ true ∷ []) ≡ choice 1 1 ∷ choice 3 1 ∷ []
unfolding column_bid digits
back_at_20 = refl

-- ---------- without a value there is no further column ----------

columns_at_0 : map priced (program (valued 0)).columns ≡ (codes "X1_1", negsuc 29) ∷ (codes "X1_2", negsuc 49) ∷ (codes "X2_1", negsuc 19) ∷
    (codes "X3_1", negsuc 11) ∷ []
unfolding digits
columns_at_0 = refl

-- ---------- a pool of at most two lots ----------

program_of_a_pool : program (pooled 2 1) ≡ record {
  objective = codes "OBJ";
  rows =
      record { name = codes "B1"; kind = AtMost; right_side = pos 1 }
      ∷ record { name = codes "B2"; kind = AtMost; right_side = pos 1 }
      ∷ record { name = codes "B3"; kind = AtMost; right_side = pos 1 }
      ∷ record { name = codes "C1"; kind = AtMost; right_side = pos 2 }
      ∷ record { name = codes "C2"; kind = AtMost; right_side = pos 1 }
      ∷ record { name = codes "P1"; kind = AtMost; right_side = pos 2 }
      ∷ [];
  columns =
      record { name = codes "X1_1"; bounds = ZeroOrOne; cost = negsuc 29; entries = entry 0 ∷ entry 3 ∷ entry 5 ∷ [] }
      ∷ record { name = codes "X2_1"; bounds = ZeroOrOne; cost = negsuc 19; entries = entry 1 ∷ entry 3 ∷ entry 5 ∷ [] }
      ∷ record { name = codes "X3_1"; bounds = ZeroOrOne; cost = negsuc 11; entries = entry 2 ∷ entry 4 ∷ entry 5 ∷ [] }
      ∷ [];
}
unfolding digits
program_of_a_pool = refl

three_are_too_many : broken_row (program (pooled 2 1)) (true ∷ true ∷ true ∷ []) ≡ Some 5
three_are_too_many = refl

two_are_not : broken_row (program (pooled 2 1)) (true ∷ true ∷ false ∷ []) ≡ None
two_are_not = refl

total_of_two : total (pooled 2 1) book (choice 1 1 ∷ choice 2 1 ∷ []) ≡ 50
total_of_two = refl

-- ---------- lots of A weigh 2, and the cap is 3 ----------

heavy_program : program (pooled 3 2) ≡ record {
  objective = codes "OBJ";
  rows =
      record { name = codes "B1"; kind = AtMost; right_side = pos 1 }
      ∷ record { name = codes "B2"; kind = AtMost; right_side = pos 1 }
      ∷ record { name = codes "B3"; kind = AtMost; right_side = pos 1 }
      ∷ record { name = codes "C1"; kind = AtMost; right_side = pos 2 }
      ∷ record { name = codes "C2"; kind = AtMost; right_side = pos 1 }
      ∷ record { name = codes "P1"; kind = AtMost; right_side = pos 3 }
      ∷ [];
  columns =
      record { name = codes "X1_1"; bounds = ZeroOrOne; cost = negsuc 29; entries = entry 0 ∷ entry 3 ∷ (5, pos 2) ∷ [] }
      ∷ record { name = codes "X2_1"; bounds = ZeroOrOne; cost = negsuc 19; entries = entry 1 ∷ entry 3 ∷ (5, pos 2) ∷ [] }
      ∷ record { name = codes "X3_1"; bounds = ZeroOrOne; cost = negsuc 11; entries = entry 2 ∷ entry 4 ∷ entry 5 ∷ [] }
      ∷ [];
}
unfolding digits
heavy_program = refl

heavy_not_broken : broken_row (program (pooled 3 2)) (true ∷ false ∷ true ∷ []) ≡ None
heavy_not_broken = refl

heavy_total : total (pooled 3 2) book (choice 1 1 ∷ choice 3 1 ∷ []) ≡ 42
heavy_total = refl

heavy_broken : broken_row (program (pooled 3 2)) (true ∷ true ∷ false ∷ []) ≡ Some 5
heavy_broken = refl

-- a bid whose load is the cap fits
at_the_cap : fits (pooled 2 1) (1 ∷ 1 ∷ []) ≡ true
at_the_cap = refl

above_the_cap : fits (pooled 2 1) (2 ∷ 1 ∷ []) ≡ false
above_the_cap = refl
