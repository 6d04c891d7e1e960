use Rattle.std.proofs.Common.{◌∙◌, arith}
use Rattle.program_rows.proofs.BuiltFacts.{bidders_are, bidders_end}
use Rattle.program_rows.proofs.rows.bidders.Goals as goal

pub returns : goal.returns
returns c = bidders_end c.loop-bid.subjects.items _ c.loop-bid.last c.loop-bid.bid-index c.args.kept.now (omega arith) c.loop-bid.invariant
    ∙ bidders_are c.args.kept.now c.requires
