use Rattle.std.proofs.Common.{◌≡◌, ℕ, ◌-◌, ◌<◌, ◌≤◌, false, length, get_or}
use Rattle.auction_terms.specs.Decimals.{is_exponent_mark}
use Rattle.auction_terms.proofs.token.mark_in.Given as goal

-- no byte before i is one
abbrev pub invariant-loop-i : goal.invariant-loop-i
invariant-loop-i l = (l.i ≤ length l.bytes) × ((k : ℕ) → k < l.i → is_exponent_mark (get_or l.bytes k 0) ≡ false)

abbrev pub decreases-loop-i : goal.decreases-loop-i
decreases-loop-i l = length l.bytes - l.i
