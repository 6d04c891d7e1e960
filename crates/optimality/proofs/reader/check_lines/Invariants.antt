use Rattle.std.proofs.Common.{◌≡◌, ℕ, ◌+◌, Ok, Some, length}
use Rattle.auction_terms.specs.Lines.{lines_of}
use Rattle.optimality.specs.inside.Branches.{branches_of, opened}
use Rattle.optimality.specs.Sizes.{IsLargeFrom}
use Rattle.optimality.specs.Verdict.{fault_from}
use Rattle.optimality.proofs.reader.check_lines.Given as goal

-- the lines so far have no fault, and are no large leaf
abbrev pub invariant-loop-line : goal.invariant-loop-line
invariant-loop-line l = (length (lines_of l.fn.text) ≡ l.place + length l.lines)
    × (fault_from l.checker.program.now l.checker.least (Ok (opened l.is_last l.splits.items)) l.place l.lines
    ≡ fault_from l.checker.program.now l.checker.least (Ok (Some (branches_of l.fn.open_splits.items))) 0 (lines_of l.fn.text))
    × ((number : ℕ) → IsLargeFrom l.checker.program.now l.checker.least (Ok (opened l.is_last l.splits.items)) l.place l.lines number
    → IsLargeFrom l.checker.program.now l.checker.least (Ok (Some (branches_of l.fn.open_splits.items))) 0 (lines_of l.fn.text) number)

abbrev pub decreases-loop-line : goal.decreases-loop-line
decreases-loop-line l = length l.lines
