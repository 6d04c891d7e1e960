use Rattle.std.specs.Prelude.{length}
use Rattle.wdp_desk.proofs.listing.add_entries.Given as goal

abbrev pub decreases-loop-text : goal.decreases-loop-text
decreases-loop-text l = length l.rest
