-- The text of a solution: lines of a column's name and a value.
use Rattle.std.specs.Prelude.{ℕ, ◌+◌, Bool, false, true, not, ◌&&◌, ◌||◌, ◌==◌, nat_lt, List, [], ◌∷◌, length, map}
use Rattle.std.specs.Prelude.{if◌then◌else◌, Option, None, Result, Ok, Err, bytes_eq, position}
use Rattle.std.specs.List.{list_any, zip}
use Rattle.std.specs.Option.{option_map, option_or}
use Rattle.auction_terms.specs.FirstFault.{first_failed, first_fault}
use Rattle.auction_terms.specs.Lines.{lines_of}
use Rattle.auction_terms.specs.Stages.{and_then, unless}
use Rattle.program_rows.specs.Program.{Table}
use Rattle.program_rows.specs.ProgramNames.{column_names}
use Rattle.program_rows.specs.Points.{allows, broken_row}
use Rattle.auction_terms.specs.LineFields.{field, fields, is_skipped}
use Rattle.auction_terms.specs.Decimals.{is_number_token, is_too_long}
use Rattle.outcome.specs.declared.limits.TheConstants.{SOLUTION_LIMIT}
use Rattle.program_rows.specs.declared.solution_fault.SolutionFault.{SolutionFault}
use Rattle.program_rows.specs.declared.solution_fault.SolutionFault.TheVariants as fault
use Rattle.outcome.specs.SolutionValues.{is_near}

-- ---- lines

-- whether the line names the column: that is its first field, and a value its second
abbrev pub names_column : List ℕ → List ℕ → Bool
names_column column line = not (is_skipped line) && bytes_eq column (field 0 (fields line))

-- the fault of a line after these lines; the columns are given by their names
abbrev pub solution_line_fault : List (List ℕ) → List (List ℕ) → List ℕ → Option SolutionFault
solution_line_fault columns before line =
    if is_skipped line then None else first_failed (
    (length (fields line) == 2, fault.Fields (length before + 1)) ∷
    (list_any (bytes_eq (field 0 (fields line))) columns, fault.UnknownColumn (length before + 1)) ∷
    (not (list_any (names_column (field 0 (fields line))) before), fault.RepeatedColumn (length before + 1)) ∷
    (is_number_token (field 1 (fields line)) && not (is_too_long (field 1 (fields line))), fault.ValueText (length before + 1)) ∷
    (is_near 0 (field 1 (fields line)) || is_near 1 (field 1 (fields line)), fault.NotZeroOne (length before + 1)) ∷ [])

-- ---- the values of the columns

-- whether a line sets the column to 1; a column that no line names is 0
abbrev pub is_one : List (List ℕ) → List ℕ → Bool
is_one text column = list_any (λ line. names_column column line && is_near 1 (field 1 (fields line))) text

-- the first bound that the values break, and then the first row
abbrev pub point_fault : Table → List Bool → Option SolutionFault
point_fault p values = option_or
    (option_map fault.BoundBroken (position (λ e. not (allows e.0.bounds e.1)) (zip p.columns values)))
    (option_map fault.RowBroken (broken_row p values))

-- ---- what a text describes

-- the values that a text gives the columns of a program, or its first refusal
unfoldable pub solution : Table → List ℕ → Result (List Bool) SolutionFault
solution p text =
    if nat_lt SOLUTION_LIMIT (length text) then Err fault.TooLarge
    else and_then (unless (first_fault (solution_line_fault (column_names p)) [] (lines_of text)) (Ok (map (is_one (lines_of text)) (column_names p))))
    (λ values. unless (point_fault p values) (Ok values))

-- out of memory is no fault of the text
abbrev pub is_solution_memory : SolutionFault → Bool
is_solution_memory fault.OutOfMemory = true
is_solution_memory f = false
