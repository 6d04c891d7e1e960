use Rattle.std.proofs.Common.{take}
use Rattle.std.specs.Prelude.{flat_map}
use Rattle.byte_sinks.specs.Adds.{Adds}
use Rattle.bid_desk.specs.Sale.{sale_of}
use Rattle.byte_sinks.specs.Objects.{object_text}
use Rattle.award_objects.specs.Objects.{price_members}
use Rattle.award_objects.proofs.payments.add_each_price.Given as goal

-- the objects so far are added
abbrev pub invariant-loop-choice : goal.invariant-loop-choice
invariant-loop-choice g l = Adds g.S.Sink.state l.initial.writer l.writer
    (flat_map (λ c. object_text (price_members l.outcome.book.now.rules (sale_of l.outcome.book.now) l.outcome.groups.now l.outcome.won.now
    l.first l.pricing c)) (take l.choice-index l.choices))
