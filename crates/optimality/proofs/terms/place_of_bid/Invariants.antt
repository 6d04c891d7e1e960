use Rattle.std.proofs.Common.{◌≤◌, ◌-◌, length}
use Rattle.optimality.proofs.terms.place_of_bid.Given as goal

-- what is left is within the columns
abbrev pub invariant-loop-low : goal.invariant-loop-low
invariant-loop-low l = (l.low ≤ l.high) × (l.high ≤ length l.program.columns)

abbrev pub decreases-loop-low : goal.decreases-loop-low
decreases-loop-low l = l.high - l.low
