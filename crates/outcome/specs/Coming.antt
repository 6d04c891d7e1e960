-- What the solutions of a program come back to.
use Rattle.std.specs.Prelude.{◌≡◌, ℕ, Bool, List, filter, pos, neg_ℤ, Ok}
use Rattle.auction_terms.specs.Packages.{Lots}
use Rattle.auction_terms.specs.Allocations.{Book, total, IsFeasible}
use Rattle.auction_terms.specs.Keeping.{kept_of}
use Rattle.auction_terms.specs.Limits.{IsBook, IsLots}
use Rattle.program_rows.specs.Program.{Table}
use Rattle.program_rows.specs.Points.{objective, IsPoint}
use Rattle.program_rows.specs.MpsMeaning.{meaning}
use Rattle.program_rows.specs.Rows.{program_of}
use Rattle.program_rows.specs.Faithful.{back, IsFaithful}
use Rattle.mps_text.specs.FaithfulText.{presolved_text}
use Rattle.outcome.specs.Solution.{solution}
use Rattle.outcome.specs.PointAllocation.{allocation_of, IsMap, HasRisingBidders}

-- what a solution text describes is a point
abbrev pub SolutionsArePoints : Type 0
SolutionsArePoints = (p : Table) (text : List ℕ) (values : List Bool) → solution p text ≡ Ok values → IsPoint p values

-- the point wins an allocation, by rising bidder: feasible, with the total that the objective gives
pub record ComesBack (lots : Lots) (book : Book) (group : ℕ → Bool) (p : Table) (values : List Bool) : Type 0 where
  pub map : IsMap (back p.columns values)
  pub feasible : IsFeasible lots book group (allocation_of p values)
  pub same_total : pos (total lots book (allocation_of p values)) ≡ neg_ℤ (objective p values)
  pub rising : HasRisingBidders (allocation_of p values)

-- the points of a faithful program come back
abbrev pub PointsComeBack : Type 0
PointsComeBack = (lots : Lots) (book : Book) (group : ℕ → Bool) (p : Table) (values : List Bool)
    → IsFaithful lots book group p → IsPoint p values → ComesBack lots book group p values

-- what solutions describe against the program of the kept bids comes back
abbrev pub SolutionsComeBack : Type 0
SolutionsComeBack = (lots : Lots) (book : Book) (group : ℕ → Bool) (solved : List ℕ) (values : List Bool) → IsBook lots book
    → solution (program_of lots (kept_of lots book group)) solved ≡ Ok values → ComesBack lots book group (program_of lots (kept_of lots book group)) values

-- what solutions describe against the program that a solver reads from the text of the kept bids comes back
abbrev pub AnswersOfSolversComeBack : Type 0
AnswersOfSolversComeBack = (lots : Lots) (book : Book) (group : ℕ → Bool) (p : Table) (solved : List ℕ) (values : List Bool) → IsLots lots → IsBook lots book
    → meaning (presolved_text lots book group) ≡ Ok p → solution p solved ≡ Ok values → ComesBack lots book group p values

-- what the solution describes against the one program is what it describes against the other, and it wins the same by both
pub record WinsTheSame (one other : Table) (solved : List ℕ) (values : List Bool) : Type 0 where
  pub others : List Bool
  pub parsed : solution other solved ≡ Ok others
  pub same_allocation : allocation_of other others ≡ allocation_of one values

-- a solution that is taken against the program of some of the kept bids is taken against that of all, and wins the same
abbrev pub SomeBidsSuffice : Type 0
SomeBidsSuffice = (lots : Lots) (book : Book) (group : ℕ → Bool) (is_among : ℕ → ℕ → Bool) (solved : List ℕ) (values : List Bool) → IsBook lots book
    → solution (program_of lots (filter (λ o. is_among o.bidder o.number) (kept_of lots book group))) solved ≡ Ok values
    → WinsTheSame (program_of lots (filter (λ o. is_among o.bidder o.number) (kept_of lots book group)))
    (program_of lots (kept_of lots book group)) solved values
