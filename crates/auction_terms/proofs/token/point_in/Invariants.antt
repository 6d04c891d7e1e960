use Rattle.std.proofs.Common.{◌≡◌, ℕ, ◌-◌, ◌<◌, ◌≤◌, false, length, get_or}
use Rattle.std.specs.Prelude.{◌==◌}
use Rattle.auction_terms.proofs.token.point_in.Given as goal

-- no byte before i is one
abbrev pub invariant-loop-i : goal.invariant-loop-i
invariant-loop-i l = (l.i ≤ length l.bytes) × ((k : ℕ) → k < l.i → (get_or l.bytes k 0 == 46) ≡ false)

abbrev pub decreases-loop-i : goal.decreases-loop-i
decreases-loop-i l = length l.bytes - l.i
