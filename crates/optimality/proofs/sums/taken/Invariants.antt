use Rattle.std.proofs.Common.{◌≡◌, ℕ, ◌+◌, ◌≤◌, ◌+ℤ◌, vec_len}
use Rattle.std.specs.Prelude.{unsigned_abs}
use Rattle.optimality.specs.Certificates.{number_in}
use Rattle.optimality.specs.Adding.{number_at}
use Rattle.optimality.specs.inside.Adding.{size_in}
use Rattle.optimality.proofs.sums.taken.Given as goal

-- what was taken, and what is left
abbrev pub invariant-loop-place : goal.invariant-loop-place
invariant-loop-place l = ((q : ℕ) → number_at l.fn.sums.numbers.items q ≡ number_in l.form.items q +ℤ number_at l.sums.numbers.items q)
    × ((q : ℕ) → size_in l.form.items q + unsigned_abs (number_at l.sums.numbers.items q) ≤ unsigned_abs (number_at l.fn.sums.numbers.items q))

abbrev pub decreases-loop-place : goal.decreases-loop-place
decreases-loop-place l = vec_len l.sums.places
