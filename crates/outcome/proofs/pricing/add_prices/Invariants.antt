use Rattle.std.proofs.Common.{take}
use Rattle.std.specs.Prelude.{flat_map}
use Rattle.byte_sinks.specs.Adds.{Adds}
use Rattle.bid_desk.specs.Sale.{sale_of}
use Rattle.outcome.specs.Pricing.{price_line}
use Rattle.outcome.proofs.pricing.add_prices.Given as goal

-- the lines so far are added
abbrev pub invariant-loop-choice : goal.invariant-loop-choice
invariant-loop-choice g l = Adds g.S.Sink.state l.initial.writer l.writer
    (flat_map (price_line (sale_of l.book) l.pricing) (take l.choice-index l.choices))
