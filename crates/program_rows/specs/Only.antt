-- Points whose objective no other one reaches.
use Rattle.std.specs.Prelude.{◌≡◌, ◌∷◌, ℕ, ◌≤◌, Bool, true, List, All, Any, Contains, IsPermutation, ◌≤ℤ◌}
use Rattle.auction_terms.specs.declared.bids.Choice.{Choice}
use Rattle.auction_terms.specs.Packages.{Lots}
use Rattle.auction_terms.specs.Allocations.{Book, total, IsFeasible}
use Rattle.auction_terms.specs.Keeping.{is_kept_choice, kept_of}
use Rattle.auction_terms.specs.Limits.{IsBook}
use Rattle.program_rows.specs.Program.{Table}
use Rattle.program_rows.specs.Points.{objective, IsPoint}
use Rattle.program_rows.specs.Rows.{program_of}
use Rattle.program_rows.specs.Faithful.{back}

-- each point of the first one's objective or less is one of these
abbrev pub AreOnlyLeast : Table → List Bool → List (List Bool) → Type 0
AreOnlyLeast program first others = (values : List Bool) → IsPoint program values → objective program values ≤ℤ objective program first
    → Contains (first ∷ others) values

-- a point of the program of the kept bids wins kept bids
abbrev pub PointsWinKeptBids : Type 0
PointsWinKeptBids = (lots : Lots) (book : Book) (group : ℕ → Bool) (values : List Bool) → IsBook lots book
    → All (λ c. is_kept_choice lots book group c ≡ true) (back (program_of lots (kept_of lots book group)).columns values)

-- only least points of that program win, in whatever order, all allocations of kept bids that have at least the first one's total
abbrev pub OnlyLeastAreAllKept : Type 0
OnlyLeastAreAllKept = (lots : Lots) (book : Book) (group : ℕ → Bool) (first : List Bool) (others : List (List Bool)) → IsBook lots book
    → IsPoint (program_of lots (kept_of lots book group)) first → AreOnlyLeast (program_of lots (kept_of lots book group)) first others
    → (other : List Choice) → IsFeasible lots book group other → All (λ c. is_kept_choice lots book group c ≡ true) other
    → total lots book (back (program_of lots (kept_of lots book group)).columns first) ≤ total lots book other
    → Any (λ values. IsPermutation (back (program_of lots (kept_of lots book group)).columns values) other) (first ∷ others)
