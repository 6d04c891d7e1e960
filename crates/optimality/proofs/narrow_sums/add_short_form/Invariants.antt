use Rattle.std.proofs.Common.{◌≡◌, ℕ, drop, ◌+ℤ◌}
use Rattle.optimality.specs.Adding.{number_at}
use Rattle.optimality.specs.inside.Adding.{form_given}
use Rattle.optimality.proofs.narrow_sums.add_short_form.Given as goal

-- the sums so far, and what the terms that are left give
abbrev pub invariant-loop-place : goal.invariant-loop-place
invariant-loop-place l = (q : ℕ) → number_at l.sums q +ℤ form_given l.factor (drop l.place-index l.form) q ≡ number_at l.initial.sums q +ℤ form_given l.factor l.form q
