use Rattle.std.proofs.Common.{◌∙◌, ap, sym}
use Rattle.bid_book.specs.History.{reply_value}
use Rattle.bid_desk.specs.Holding.{SessionOwn}
use Rattle.auction_input.proofs.SubmissionFacts.{accepted-here, form-here, unaccepted-here}
use Rattle.auction_input.proofs.bidder_thread.submit_each.Goals as goal

pub submit-requires-clause-bidder : goal.submit-requires-clause-bidder
submit-requires-clause-bidder g c =
    let form = form-here c.args.forms.now c.loop-form.form-index c.form-item.result c.loop-form-test.true c.form-item.is g.L.Round.rules
    c.args.session.now.bidder c.requires.own in
    form.bidder_is ∙ sym c.loop-form.invariant.0

pub submit-requires-clause-meets : goal.submit-requires-clause-meets
submit-requires-clause-meets g c =
    (form-here c.args.forms.now c.loop-form.form-index c.form-item.result c.loop-form-test.true c.form-item.is g.L.Round.rules
    c.args.session.now.bidder c.requires.own).meets

pub loop-form-preserved : goal.loop-form-preserved
loop-form-preserved g c =
    let same = c.submit.ensures.same in
    let invariant = c.loop-form.invariant in (
      same.0 ∙ invariant.0,
      same.1 ∙ invariant.1,
      accepted-here c.args.forms.now c.loop-form.form-index c.form-item.result c.loop-form-test.true c.form-item.is _ _ _ _ _ _ _ _
          (reply_value c.in-Ok.reply) c.in-Some.number
          invariant.2 c.in-Some.ensures.accepted c.in-Ok.ensures.recorded,
    )

pub returns-in-None-clause-wrong : goal.returns-in-None-clause-wrong
returns-in-None-clause-wrong g c = λ wrong.
    unaccepted-here c.args.forms.now c.loop-form.form-index c.form-item.result c.loop-form-test.true c.form-item.is _ _ _ _ _ _ _ _
    (reply_value c.in-Ok.reply) c.loop-form.invariant.2 c.in-None.ensures.other c.in-Ok.ensures.recorded
    (λ limit. ap (λ (s : SessionOwn). s.pairs) (c.in-Ok.ensures.limit limit).1)
