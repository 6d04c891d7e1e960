use Rattle.std.proofs.Common.{◌∷◌, take}
use Rattle.std.specs.Prelude.{flat_map}
use Rattle.byte_sinks.specs.Adds.{Adds}
use Rattle.bid_desk.specs.Sale.{bidder_name, sale_of}
use Rattle.outcome.proofs.report_lines.add_more_names.Given as goal

-- the names so far are added
abbrev pub invariant-loop-bidder : goal.invariant-loop-bidder
invariant-loop-bidder g l = Adds g.S.Sink.state l.initial.writer l.writer
    (flat_map (λ further. 43 ∷ bidder_name (sale_of l.book).names further) (take l.bidder-index l.bidders))
