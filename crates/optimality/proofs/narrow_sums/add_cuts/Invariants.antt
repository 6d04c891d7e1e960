use Rattle.std.proofs.Common.{◌≡◌, ℕ, drop, ◌+ℤ◌}
use Rattle.optimality.specs.Adding.{number_at}
use Rattle.optimality.specs.inside.Adding.{cuts_given}
use Rattle.optimality.specs.Holding.{cuts_of}
use Rattle.optimality.proofs.narrow_sums.add_cuts.Given as goal

-- the sums so far, and what the cuts that are left give
abbrev pub invariant-loop-i : goal.invariant-loop-i
invariant-loop-i l = (q : ℕ) → number_at l.sums q +ℤ cuts_given (drop l.i l.multipliers) (cuts_of (drop l.i l.splits)) q
    ≡ number_at l.initial.sums q +ℤ cuts_given l.multipliers (cuts_of l.splits) q
