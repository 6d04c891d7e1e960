use Rattle.std.proofs.Common.{◌∙◌, ◌+◌, ◌-◌, ◌<◌, arith, length, sym}
use Rattle.prices.proofs.AloneFacts.{alone_goes_on}
use Rattle.award_objects.proofs.payments.alone_of.Goals as goal

pub loop-place-preserved : goal.loop-place-preserved
loop-place-preserved c =
    let groups = c.args.outcome.now.groups.now in
    let won = c.args.outcome.now.won.now in
    let i = c.loop-place.place in
    let within : i < length groups = omega (arith, c.loop-place-test.true, c.count-place-end.ensures.count) in
    alone_goes_on groups won c.args.choice.bidder i ((i + 1) - 1) c.group-group.result.now within (omega (arith, within, c.requires)) (omega arith)
    c.group-group.ensures (sym c.is_alone.ensures ∙ c.if-is_alone.false) c.loop-place.invariant
