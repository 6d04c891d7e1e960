use Rattle.std.proofs.Common.{◌≡◌, ℕ, ◌-◌, ◌<◌, ◌≤◌, false, length, get_or}
use Rattle.auction_terms.specs.LineFields.{is_space}
use Rattle.auction_terms.proofs.line_fields.space_in.Given as goal

-- no byte before i is white space
abbrev pub invariant-loop-i : goal.invariant-loop-i
invariant-loop-i l = (l.i ≤ length l.line) × ((k : ℕ) → k < l.i → is_space (get_or l.line k 0) ≡ false)

abbrev pub decreases-loop-i : goal.decreases-loop-i
decreases-loop-i l = length l.line - l.i
