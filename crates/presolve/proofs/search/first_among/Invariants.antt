use Rattle.std.proofs.Common.{◌≡◌, ◌<◌, ◌+◌, ℕ, false, length, slice_index_or}
use Rattle.std.specs.Int.{bit_at}
use Rattle.presolve.specs.declared.order.SizedBid.{SizedBid}
use Rattle.presolve.specs.inside.Sizes.{beats}
use Rattle.presolve.proofs.search.first_among.Given as goal

-- none of the candidates that aren't left beats the bid
abbrev pub invariant-loop-left : goal.invariant-loop-left
invariant-loop-left l = (k : ℕ) (d : SizedBid) → bit_at l.candidates k ≡ 1 → bit_at l.left k ≡ 0 → l.first + k < length l.rivals
    → beats l.bid (slice_index_or l.rivals (l.first + k) d) ≡ false

abbrev pub decreases-loop-left : goal.decreases-loop-left
decreases-loop-left l = l.left
