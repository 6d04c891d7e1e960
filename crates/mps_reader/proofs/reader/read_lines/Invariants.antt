use Rattle.std.proofs.Common.{◌≡◌, ℕ, List, ◌++◌, length, map}
use Rattle.program_rows.specs.MpsLines.{line_of}
use Rattle.program_rows.specs.MpsSections.{Sections}
use Rattle.program_rows.specs.MpsMeaning.{meaning, meaning_after}
use Rattle.mps_reader.specs.inside.Tracking.{ReadingTells}
use Rattle.auction_terms.specs.Lines.{lines_of}
use Rattle.mps_reader.specs.inside.Agreeing.{ReadingFits}
use Rattle.mps_reader.proofs.reader.read_lines.Given as goal

-- the reading fits, so many lines were read, and the reading is that of them
abbrev pub invariant-loop-line : goal.invariant-loop-line
invariant-loop-line l = ReadingFits l.reading × ((before : List (List ℕ)) × (lines_of l.fn.text ≡ before ++ l.lines) × (l.place ≡ length before))
    × ((seen : Sections) × (meaning l.fn.text ≡ meaning_after l.place seen (map line_of l.lines)) × ReadingTells seen l.reading)

abbrev pub decreases-loop-line : goal.decreases-loop-line
decreases-loop-line l = length l.lines
