use Rattle.std.proofs.Common.{take}
use Rattle.std.specs.Prelude.{flat_map}
use Rattle.byte_sinks.specs.Adds.{Adds}
use Rattle.bid_desk.specs.Sale.{sale_of}
use Rattle.outcome.specs.Others.{tie_text}
use Rattle.outcome.proofs.others.add_ties.Given as goal

-- the ties so far are added
abbrev pub invariant-loop-award : goal.invariant-loop-award
invariant-loop-award g l = Adds g.S.Sink.state l.initial.writer l.writer
    (flat_map (tie_text (sale_of l.book)) (take l.award-index l.awards))
