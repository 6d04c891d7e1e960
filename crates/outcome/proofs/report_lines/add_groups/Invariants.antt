use Rattle.std.proofs.Common.{take}
use Rattle.std.specs.List.{zip}
use Rattle.byte_sinks.specs.Adds.{Adds}
use Rattle.bid_desk.specs.Sale.{sale_of}
use Rattle.outcome.specs.Report.{group_report, in_turn}
use Rattle.outcome.proofs.report_lines.add_groups.Given as goal

-- the groups so far are added
abbrev pub invariant-loop-i : goal.invariant-loop-i
invariant-loop-i g l = Adds g.S.Sink.state l.initial.writer l.writer
    (in_turn (group_report (sale_of l.book) l.first) 1 (zip (take l.i l.groups) (take l.i l.allocations)))
