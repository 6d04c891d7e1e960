use Rattle.std.proofs.Common.{◌≡◌, ℕ, ◌-◌, ◌<◌, ◌≤◌, false, length, get_or}
use Rattle.mps_reader.specs.inside.Reading.{is_after}
use Rattle.mps_reader.proofs.fields.field_end.Given as goal

-- no byte before i passes
abbrev pub invariant-loop-i : goal.invariant-loop-i
invariant-loop-i l = (l.i ≤ length l.text) × ((k : ℕ) → k < l.i → is_after (get_or l.text k 0) ≡ false)

abbrev pub decreases-loop-i : goal.decreases-loop-i
decreases-loop-i l = length l.text - l.i
