use Rattle.std.proofs.Common.{◌≡◌, ◌*◌, ◌^◌, drop, pos, neg_ℤ, ◌+ℤ◌, ◌≤ℤ◌}
use Rattle.program_rows.specs.Points.{coefficient_at}
use Rattle.program_rows.specs.inside.Ones.{sum_at}
use Rattle.program_rows.proofs.ones.sum_at.Given as goal

-- the sum so far and that of the places that are left are all; each coefficient is below 2^63 in size
abbrev pub invariant-loop-place : goal.invariant-loop-place
invariant-loop-place l = (neg_ℤ (pos (l.place-index * 2 ^ 63)) ≤ℤ l.sum) × (l.sum ≤ℤ pos (l.place-index * 2 ^ 63))
    × (l.sum +ℤ sum_at (coefficient_at l.row) l.columns (drop l.place-index l.places) ≡ sum_at (coefficient_at l.row) l.columns l.places)
