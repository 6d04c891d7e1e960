use Rattle.std.specs.Prelude.{◌-◌, ◌≤◌, length}
use Rattle.desk_book.proofs.settle.take_openings.Given as goal

abbrev pub invariant-openings : goal.invariant-openings
invariant-openings g l = l.at ≤ length l.bytes

abbrev pub decreases-openings : goal.decreases-openings
decreases-openings g l = length l.bytes - l.at
