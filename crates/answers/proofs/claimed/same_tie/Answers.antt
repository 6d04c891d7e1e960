use Rattle.std.proofs.Common.{◌∙◌, sym}
use Rattle.answers.proofs.ClaimedFacts.{same-here, same-later}
use Rattle.answers.proofs.claimed.same_tie.Goals as goal

pub returns-then-same_winners : goal.returns-then-same_winners
returns-then-same_winners c =
    sym (sym c.loop-place.invariant ∙ same-here c.args.ties.now c.args.award.now c.loop-place.place c.index-ties-place.result c.index-ties-place.is
    c.loop-place-test.true (sym c.same_winners.ensures ∙ c.if-same_winners.true))

pub loop-place-preserved : goal.loop-place-preserved
loop-place-preserved c =
    sym (same-later c.args.ties.now c.args.award.now c.loop-place.place c.index-ties-place.result c.index-ties-place.is
    c.loop-place-test.true (sym c.same_winners.ensures ∙ c.if-same_winners.false)) ∙ c.loop-place.invariant
