-- When a program says of a book, and of a group of bidders left out, what the allocations say.
use Rattle.std.specs.Prelude.{◌≡◌, ℕ, ◌≤◌, Bool, true, false, List, [], ◌∷◌, ◌++◌, pos, neg_ℤ, ◌≤ℤ◌}
use Rattle.std.specs.Option.{option_to_list}
use Rattle.auction_terms.specs.declared.bids.Choice.{Choice}
use Rattle.auction_terms.specs.Packages.{Lots}
use Rattle.auction_terms.specs.Allocations.{Book, total, IsFeasible}
use Rattle.auction_terms.specs.Keeping.{kept_of}
use Rattle.auction_terms.specs.Limits.{IsBook}
use Rattle.program_rows.specs.Program.{Table, TableColumn}
use Rattle.program_rows.specs.Points.{objective, IsPoint}
use Rattle.program_rows.specs.Spelling.{column_bid}
use Rattle.program_rows.specs.Rows.{program_of}

-- the bids whose columns are 1; a column spelled otherwise names no bid
abbrev pub back : List TableColumn → List Bool → List Choice
back (c ∷ columns) (true ∷ values) = option_to_list (column_bid c.name) ++ back columns values
back (c ∷ columns) (false ∷ values) = back columns values
back columns values = []

-- the point maps back to a feasible allocation of the same total
pub record MapsBack (lots : Lots) (book : Book) (group : ℕ → Bool) (program : Table) (values : List Bool) : Type 0 where
  pub feasible : IsFeasible lots book group (back program.columns values)
  pub same_total : pos (total lots book (back program.columns values)) ≡ neg_ℤ (objective program values)

-- a point of at least the allocation's total
pub record Matched (lots : Lots) (book : Book) (program : Table) (a : List Choice) : Type 0 where
  pub values : List Bool
  pub is_point : IsPoint program values
  pub no_less : pos (total lots book a) ≤ℤ neg_ℤ (objective program values)

-- each point maps back to a feasible allocation of the same total, and each feasible allocation is matched by a point of at least its total
pub record IsFaithful (lots : Lots) (book : Book) (group : ℕ → Bool) (program : Table) : Type 0 where
  pub maps_back : (values : List Bool) → IsPoint program values → MapsBack lots book group program values
  pub is_matched : (a : List Choice) → IsFeasible lots book group a → Matched lots book program a

-- the program of the kept bids is faithful
abbrev pub PresolvedIsFaithful : Type 0
PresolvedIsFaithful = (lots : Lots) (book : Book) (group : ℕ → Bool) → IsBook lots book → IsFaithful lots book group (program_of lots (kept_of lots book group))

-- no point has a lower objective
abbrev pub IsLeast : Table → List Bool → Type 0
IsLeast program values = (others : List Bool) → IsPoint program others → objective program values ≤ℤ objective program others

-- no feasible allocation has a greater total
pub record IsGreatest (lots : Lots) (book : Book) (group : ℕ → Bool) (a : List Choice) : Type 0 where
  pub feasible : IsFeasible lots book group a
  pub greatest : (other : List Choice) → IsFeasible lots book group other → total lots book other ≤ total lots book a

-- a point of least objective maps back to a feasible allocation of greatest total
abbrev pub LeastIsGreatest : Type 0
LeastIsGreatest = (lots : Lots) (book : Book) (group : ℕ → Bool) (program : Table) → IsFaithful lots book group program
    → (values : List Bool) → IsPoint program values → IsLeast program values → IsGreatest lots book group (back program.columns values)
