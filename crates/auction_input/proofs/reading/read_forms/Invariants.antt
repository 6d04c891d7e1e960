use Rattle.std.proofs.Common.{◌-◌, length}
use Rattle.auction_input.proofs.FormStageFacts.{AreRead}
use Rattle.auction_input.proofs.reading.read_forms.Given as goal

abbrev pub invariant-loop-start : goal.invariant-loop-start
invariant-loop-start g l = AreRead l.fn.rules l.fn.texts l.start l.forms.items

abbrev pub decreases-loop-start : goal.decreases-loop-start
decreases-loop-start g l = length l.fn.texts - l.start
