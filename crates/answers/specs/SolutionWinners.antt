-- What a solution of the program without a group wins, and what the solutions of all groups win; or why they are refused.
use Rattle.std.specs.Prelude.{ℕ, List, [], Result, Ok, slice_get}
use Rattle.std.specs.List.{zip}
use Rattle.std.specs.Option.{option_map_or}
use Rattle.answers.specs.Programs.{program_for}
use Rattle.auction_input.specs.declared.refusal.Refusal.{Refusal}
use Rattle.auction_input.specs.Auction.{Auction}
use Rattle.auction_input.specs.PartCounts.{numbers_of, refused_unless, solution_wants}
use Rattle.auction_terms.specs.FirstFault.{first_failed}
use Rattle.auction_terms.specs.Stages.{and_then, each_in_turn, refused_as, unless}
use Rattle.auction_input.specs.declared.refusal.Refusal.TheVariants as refusal
use Rattle.auction_terms.specs.declared.bids.Choice.{Choice}
use Rattle.outcome.specs.Solution.{solution}
use Rattle.outcome.specs.PointAllocation.{allocation_of}
use Rattle.program_rows.specs.declared.solution_fault.SolutionFault.TheVariants as fault
use Rattle.program_rows.specs.declared.solution_fault.SolutionFault.{SolutionFault}
use Rattle.program_rows.specs.Program.{Table}
use Rattle.program_rows.specs.ProgramNames.{row_name}

-- a fault of the solution of this number; a bound or a row that is broken is reported by its name
abbrev pub solution_refused : Table → ℕ → SolutionFault → Refusal
solution_refused p number (fault.BoundBroken column) = refusal.BoundBroken number (option_map_or (λ c. c.name) (slice_get p.columns column) [])
solution_refused p number (fault.RowBroken row) = refusal.RowBroken number (row_name p.rows row)
solution_refused p number f = refusal.Solution number f

-- the winners by a program and its solution
abbrev pub winners_by : Table → ℕ → List ℕ → Result (List Choice) Refusal
winners_by p number text = and_then (refused_as (solution_refused p number) (solution p text)) (λ point. Ok (allocation_of p point))

-- what the solutions win, group by group
abbrev pub winners_of_groups : Auction → Result (List (List Choice)) Refusal
winners_of_groups auction =
    unless (first_failed (refused_unless (solution_wants (numbers_of auction))))
    (each_in_turn (λ number (item : List ℕ × List ℕ). winners_by (program_for auction.sale item.0) number item.1) 1 (zip auction.groups auction.solutions))
