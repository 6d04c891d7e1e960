use Rattle.std.proofs.Common.{length}
use Rattle.answers.proofs.winning.named_bids.Given as goal

abbrev pub decreases-loop-line : goal.decreases-loop-line
decreases-loop-line l = length l.lines
