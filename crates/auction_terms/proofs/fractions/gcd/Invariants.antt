use Rattle.std.proofs.Common.{ℕ}
use Rattle.std.specs.Int.{IsGcd}
use Rattle.auction_terms.proofs.fractions.gcd.Given as goal

abbrev pub invariant-loop-lesser : goal.invariant-loop-lesser
invariant-loop-lesser l = (g : ℕ) → IsGcd l.greater l.lesser g → IsGcd l.fn.one l.fn.other g

abbrev pub decreases-loop-lesser : goal.decreases-loop-lesser
decreases-loop-lesser l = l.lesser
