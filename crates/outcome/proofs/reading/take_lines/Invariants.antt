use Rattle.std.proofs.Common.{◌≡◌, ◌+◌, ◌≤◌, ℕ, List, length}
use Rattle.auction_terms.specs.Lines.{lines_of, bytes_of}
use Rattle.auction_terms.proofs.FirstFaultFacts.{CheckedSoFar}
use Rattle.outcome.specs.Solution.{solution_line_fault}
use Rattle.outcome.specs.inside.Reading.{said_by}
use Rattle.outcome.proofs.reading.take_lines.Given as goal

-- the lines so far have no fault, and what they say is noted
abbrev pub invariant-loop-line : goal.invariant-loop-line
invariant-loop-line l = (before : List (List ℕ)) × CheckedSoFar (solution_line_fault (bytes_of l.columns.names.keys)) (lines_of l.text) before l.lines
    × (l.place ≡ length before) × (l.place + length l.lines ≤ length (lines_of l.text)) × (l.said ≡ said_by (bytes_of l.columns.names.keys) before)

abbrev pub decreases-loop-line : goal.decreases-loop-line
decreases-loop-line l = length l.lines
