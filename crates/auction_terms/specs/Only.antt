-- Allocations whose total no other one reaches.
use Rattle.std.specs.Prelude.{ℕ, ◌≤◌, Bool, List, IsPermutation}
use Rattle.auction_terms.specs.declared.bids.Choice.{Choice}
use Rattle.auction_terms.specs.Packages.{Lots}
use Rattle.auction_terms.specs.Allocations.{Book, total, IsFeasible}

-- feasible, and each feasible allocation of at least its total has the same choices, in whatever order
pub record IsOnly (lots : Lots) (book : Book) (group : ℕ → Bool) (a : List Choice) : Type 0 where
  pub feasible : IsFeasible lots book group a
  pub only : (other : List Choice) → IsFeasible lots book group other → total lots book a ≤ total lots book other → IsPermutation a other
