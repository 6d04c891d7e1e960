use Rattle.std.proofs.Common.{◌+◌, ◌-◌, vec_len}
use Rattle.optimality.specs.inside.Adding.{AreAsBefore}
use Rattle.optimality.proofs.sums.reach.Given as goal

-- the list says the same
abbrev pub invariant-loop-numbers : goal.invariant-loop-numbers
invariant-loop-numbers l = AreAsBefore l.fn.numbers.items l.numbers.items

abbrev pub decreases-loop-numbers : goal.decreases-loop-numbers
decreases-loop-numbers l = l.place + 1 - vec_len l.numbers
