use Rattle.std.proofs.Common.{arith}
use Rattle.std.proofs.lemmas.Nat.Gcd.{IsGcd-from_zero, IsGcd-from_mod}
use Rattle.auction_terms.proofs.FractionFacts.{gcd_is}
use Rattle.auction_terms.proofs.fractions.gcd.Goals as goal

pub loop-lesser-init : goal.loop-lesser-init
loop-lesser-init c g h = rw c.from-lesser.ensures at h

pub loop-lesser-preserved : goal.loop-lesser-preserved
loop-lesser-preserved c g h = c.loop-lesser.invariant g (IsGcd-from_mod _ _ g h)

pub returns-clause-divisor : goal.returns-clause-divisor
returns-clause-divisor c = (gcd_is _ _ _ c.requires (c.loop-lesser.invariant _ (IsGcd-from_zero _ _ (omega (arith, c.loop-lesser-test.false))))).2

pub returns-clause-some : goal.returns-clause-some
returns-clause-some c = (gcd_is _ _ _ c.requires (c.loop-lesser.invariant _ (IsGcd-from_zero _ _ (omega (arith, c.loop-lesser-test.false))))).0

pub returns-clause-small : goal.returns-clause-small
returns-clause-small c = (gcd_is _ _ _ c.requires (c.loop-lesser.invariant _ (IsGcd-from_zero _ _ (omega (arith, c.loop-lesser-test.false))))).1

pub overflow_cast-result : goal.overflow_cast-result
overflow_cast-result c =
    let small = (gcd_is _ _ _ c.requires (c.loop-lesser.invariant _ (IsGcd-from_zero _ _ (omega (arith, c.loop-lesser-test.false))))).1 in
    grind (arith, small, c.ranges)
