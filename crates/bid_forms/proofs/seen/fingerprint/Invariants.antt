use Rattle.std.proofs.Common.{◌≡◌, ◌<◌, ◌-◌, ◌%◌, fold}
use Rattle.std.specs.List.{range_with_len}
use Rattle.bid_forms.specs.inside.Fingerprints.{fingerprint, next_sum, prime}
use Rattle.bid_forms.proofs.seen.fingerprint.Given as goal

abbrev pub invariant-loop-four : goal.invariant-loop-four
invariant-loop-four l =
    (fold (next_sum (l.multiplier % prime) l.quantities) l.sum (range_with_len l.four (l.four-end - l.four)) ≡ fingerprint l.multiplier l.quantities)
    × (l.sum < prime)
