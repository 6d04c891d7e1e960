use Rattle.std.proofs.Common.{take}
use Rattle.auction_input.specs.CallLimit.{CountsCalls}
use Rattle.auction_input.proofs.call_limit.check_calls.Given as goal

abbrev pub invariant-loop-place : goal.invariant-loop-place
invariant-loop-place l = CountsCalls l.calls (take l.place l.forms)
