-- What the reader of a solution holds while it goes over the lines.
use Rattle.std.specs.Prelude.{ℕ, Bool, not, ◌&&◌, ◌||◌, List, [], ◌∷◌, map, Option, None, Some, if◌then◌else◌, bytes_eq}
use Rattle.std.specs.List.{list_any}
use Rattle.auction_terms.specs.Decimals.{is_number_token, is_too_long}
use Rattle.program_rows.specs.declared.solution_fault.SolutionFault.{SolutionFault}
use Rattle.program_rows.specs.declared.solution_fault.SolutionFault.TheVariants as fault
use Rattle.outcome.specs.Solution.{names_column, is_one}
use Rattle.outcome.specs.SolutionValues.{is_near}

-- the checks of a name and a value in the line at a place, after these lines
abbrev pub pair_checks : List (List ℕ) → List (List ℕ) → ℕ → List ℕ → List ℕ → List (Bool × SolutionFault)
pair_checks columns before place name token =
    (list_any (bytes_eq name) columns, fault.UnknownColumn place) ∷
    (not (list_any (names_column name) before), fault.RepeatedColumn place) ∷
    (is_number_token token && not (is_too_long token), fault.ValueText place) ∷
    (is_near 0 token || is_near 1 token, fault.NotZeroOne place) ∷ []

-- what the lines say of a column: nothing, or whether it is 1
abbrev pub said_of : List (List ℕ) → List ℕ → Option Bool
said_of text column = if list_any (names_column column) text then Some (is_one text column) else None

-- what the lines of a solution say of each column, in the columns' order
abbrev pub said_by : List (List ℕ) → List (List ℕ) → List (Option Bool)
said_by columns text = map (said_of text) columns
