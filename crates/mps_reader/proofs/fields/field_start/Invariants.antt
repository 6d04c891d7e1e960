use Rattle.std.proofs.Common.{◌≡◌, ℕ, ◌-◌, ◌<◌, ◌≤◌, false, length, get_or}
use Rattle.mps_reader.specs.inside.Reading.{is_other}
use Rattle.mps_reader.proofs.fields.field_start.Given as goal

-- no byte before i passes
abbrev pub invariant-loop-i : goal.invariant-loop-i
invariant-loop-i l = (l.i ≤ length l.rest) × ((k : ℕ) → k < l.i → is_other (get_or l.rest k 0) ≡ false)

abbrev pub decreases-loop-i : goal.decreases-loop-i
decreases-loop-i l = length l.rest - l.i
