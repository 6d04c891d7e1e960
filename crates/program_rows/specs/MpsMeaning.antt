-- The meaning of an MPS text: the program that its lines describe, if none of them is faulty.
use Rattle.std.specs.Prelude.{ℕ, ◌+◌, List, [], ◌∷◌, map, option_map, if◌then◌else◌, Result, Ok, Err}
use Rattle.auction_terms.specs.Lines.{lines_of}
use Rattle.auction_terms.specs.Stages.{unless}
use Rattle.program_rows.specs.Program.{Table}
use Rattle.program_rows.specs.MpsLines.{Line, line_of}
use Rattle.program_rows.specs.MpsSections.{Sections, no_lines, with_line, is_end}
use Rattle.program_rows.specs.MpsProgram.{program}
use Rattle.program_rows.specs.MpsFaults.{fault}
use Rattle.program_rows.specs.declared.mps_fault_kind.MpsFaultKind.{MpsFaultKind}
use Rattle.program_rows.specs.declared.mps_fault_kind.MpsFaultKind.TheVariants.{NoEnd}

-- the meaning of the lines after those that are gathered: the first faulty line and its fault, else, at the end, the program of all that are gathered
abbrev pub meaning_after : ℕ → Sections → List Line → Result Table (ℕ × MpsFaultKind)
meaning_after count s [] = Err (count, NoEnd)
meaning_after count s (line ∷ after) =
    unless (option_map (λ kind. (count + 1, kind)) (fault s line)) (if is_end line then Ok (program s) else meaning_after (count + 1) (with_line s line) after)

-- the program that an MPS text describes, or the number of its first faulty line with the fault
unfoldable pub meaning : List ℕ → Result Table (ℕ × MpsFaultKind)
meaning text = meaning_after 0 no_lines (map line_of (lines_of text))
