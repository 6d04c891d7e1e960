use Rattle.std.proofs.Common.{◌<◌, ◌∷◌, get_or, length, arith, rules}
use Rattle.byte_sinks.proofs.AddingFacts.{Adds-then, Adds-to}
use Rattle.byte_sinks.proofs.KnownByteFacts.{flat_map-next_or}
use Rattle.bid_desk.specs.Sale.{bidder_name, sale_of}
use Rattle.outcome.proofs.report_lines.add_more_names.Goals as goal

pub loop-bidder-preserved : goal.loop-bidder-preserved
loop-bidder-preserved g c =
    let at = c.loop-bidder.bidder-index in
    let all = c.args.bidders.now in
    let lt : at < length all = omega arith in
    Adds-to (Adds-then {ys = 43 ∷ bidder_name (sale_of c.args.book.now).names (get_or all at 0)} c.loop-bidder.invariant (Adds-to c.add_pieces.ensures (search rules)))
    (flat_map-next_or (λ further. 43 ∷ bidder_name (sale_of c.args.book.now).names further) all at 0 lt)
