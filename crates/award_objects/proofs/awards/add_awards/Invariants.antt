use Rattle.std.proofs.Common.{take}
use Rattle.std.specs.Prelude.{flat_map}
use Rattle.byte_sinks.specs.Adds.{Adds}
use Rattle.std.specs.List.{enumerate_from, zip}
use Rattle.bid_desk.specs.Sale.{sale_of}
use Rattle.award_objects.specs.Objects.{award_text}
use Rattle.award_objects.proofs.awards.add_awards.Given as goal

-- the objects so far are added
abbrev pub invariant-loop-place : goal.invariant-loop-place
invariant-loop-place g l = Adds g.S.Sink.state l.initial.writer l.writer
    (flat_map (λ e. award_text l.outcome.book.now.rules (sale_of l.outcome.book.now) (zip l.outcome.groups.now l.outcome.won.now) e.0 e.1)
    (take l.place (enumerate_from 2 l.awards)))
