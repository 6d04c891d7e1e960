use Rattle.std.proofs.Common.{take}
use Rattle.auction_terms.specs.Groups.{has}
use Rattle.byte_sinks.specs.Adds.{Adds}
use Rattle.group_compiler.specs.Pages.{outside}
use Rattle.group_compiler.specs.Joining.{joined}
use Rattle.group_compiler.proofs.writing.add_joined.Given as goal

-- the lines of the pages so far are added
abbrev pub invariant-loop-place : goal.invariant-loop-place
invariant-loop-place g l = Adds g.S.Sink.state l.initial.writer l.writer (joined l.section (outside (has l.group) 1 (take l.place l.pages)))
