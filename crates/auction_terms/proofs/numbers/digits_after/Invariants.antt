use Rattle.std.proofs.Common.{◌≡◌, ◌+◌, ◌-◌, ◌^◌, ◌<◌, ◌≤◌, length, take}
use Rattle.std.specs.Str.Parse.{digits_value_after}
use Rattle.auction_terms.proofs.numbers.digits_after.Given as goal

-- the value of the digits so far
abbrev pub invariant-loop-i : goal.invariant-loop-i
invariant-loop-i l = (l.i ≤ length l.bytes) × (l.value ≡ digits_value_after 10 l.initial.value (take l.i l.bytes)) × (l.value < 10 ^ (l.count + l.i))

abbrev pub decreases-loop-i : goal.decreases-loop-i
decreases-loop-i l = length l.bytes - l.i
