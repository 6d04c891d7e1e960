-- Going back to a state.
use Rattle.std.specs.Prelude.{length}
use Rattle.desk_line.specs.declared.machine.Mark.{Mark}
use Rattle.desk_book.specs.declared.desk.Desk.{Desk}

-- what is kept of a state to go back to it
abbrev pub mark_of : {J : Type 0} → Desk J → Mark
mark_of m = record { entries = length m.book; extent = m.extent; durable = m.durable; chain = m.chain }
