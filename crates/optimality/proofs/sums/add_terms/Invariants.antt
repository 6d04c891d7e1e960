use Rattle.std.proofs.Common.{◌≡◌, ℕ, ◌*◌, ◌^◌, ◌≤◌, drop, ◌+ℤ◌}
use Rattle.std.specs.Prelude.{unsigned_abs}
use Rattle.optimality.specs.Certificates.{number_in}
use Rattle.optimality.specs.Adding.{number_at}
use Rattle.optimality.proofs.sums.add_terms.Given as goal

-- the sums so far, and what the terms that are left give; each term is at most 2^63 in size
abbrev pub invariant-loop-place : goal.invariant-loop-place
invariant-loop-place l = ((q : ℕ) → number_at l.sums.numbers.items q +ℤ number_in (drop l.place-index l.terms) q ≡ number_at l.fn.sums.numbers.items q +ℤ number_in l.terms q)
    × ((q : ℕ) → unsigned_abs (number_at l.sums.numbers.items q) ≤ l.place-index * 2 ^ 63)
