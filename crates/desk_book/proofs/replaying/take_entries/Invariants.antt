use Rattle.std.specs.Prelude.{◌-◌, length}
use Rattle.desk_book.specs.inside.Reading.{IsReadTo}
use Rattle.desk_book.proofs.replaying.take_entries.Given as goal

abbrev pub invariant-entries : goal.invariant-entries
invariant-entries g l = IsReadTo l.fn.desk l.bytes l.front_len l.at l.desk

abbrev pub decreases-entries : goal.decreases-entries
decreases-entries g l = length l.bytes - l.at
