-- What a solution wins is feasible.
use Rattle.std.proofs.Common.{◌≡◌, ℕ, List, Ok, refl, subst}
use Rattle.auction_terms.specs.Allocations.{IsFeasible}
use Rattle.auction_terms.specs.Groups.{has}
use Rattle.auction_terms.specs.Limits.{IsBook}
use Rattle.auction_terms.specs.Stages.{refused_as}
use Rattle.auction_terms.specs.declared.bids.Choice.{Choice}
use Rattle.auction_input.proofs.AnswerFacts.{ok-after, ok-is, ok-refused_as}
use Rattle.bid_desk.specs.Sale.{Sale}
use Rattle.outcome.specs.PointAllocation.{allocation_of}
use Rattle.outcome.specs.Solution.{solution}
use Rattle.outcome.proofs.BackFacts.{solutions_come_back}
use Rattle.program_rows.specs.Program.{Table}
use Rattle.answers.specs.Programs.{program_for}
use Rattle.answers.specs.SolutionWinners.{solution_refused}
use Rattle.answers.specs.inside.SolutionWinners.{winners}

-- what a solution wins without a group is feasible
pub feasible-of : (sale : Sale) (number : ℕ) (group text : List ℕ) (a : List Choice) → IsBook sale.lots sale.book
    → winners sale number (group, text) ≡ Ok a → IsFeasible sale.lots sale.book (has group) a
feasible-of sale number group text a within won =
    let p : Table = program_for sale group in
    let (point, point_is, wins) = ok-after (refused_as (solution_refused p number) (solution p text)) _ a won in
    let solved = ok-refused_as (solution_refused p number) (solution p text) point point_is in
    let comes = solutions_come_back sale.lots sale.book (has group) text point within solved in
    let is : allocation_of p point ≡ a = ok-is _ (allocation_of p point) a refl wins in
    subst (λ (x : List Choice). IsFeasible sale.lots sale.book (has group) x) is comes.feasible
