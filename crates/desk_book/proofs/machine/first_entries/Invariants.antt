use Rattle.std.specs.Prelude.{◌≡◌, take}
use Rattle.desk_book.proofs.machine.first_entries.Given as goal

abbrev pub invariant-loop-place : goal.invariant-loop-place
invariant-loop-place l = l.fresh ≡ take l.place l.fn.book
