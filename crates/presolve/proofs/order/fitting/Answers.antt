use Rattle.std.proofs.Common.{◌∙◌, sym}
use Rattle.std.proofs.lemmas.List.Elements.{All-push}
use Rattle.auction_terms.specs.Terms.{lots_in}
use Rattle.presolve.specs.inside.Sizes.{TellsItsNet, TellsItsSize}
use Rattle.presolve.proofs.SizeFacts.{fitting_less, fitting_more}
use Rattle.presolve.proofs.order.fitting.Goals as goal
use Rattle.presolve.proofs.order.fitting.Goals.{then-fits+in_ok-push, else-fits}

pub loop-place-preserved : goal.loop-place-preserved
loop-place-preserved c =
    let before = c.loop-place in
    let lots = lots_in c.args.rules.now in
    let bids = c.args.bids.now in
    elim c.if-fits.branch [
      | then-fits+in_ok-push w ↦
          rw (w.fitting-is, w.in_ok-push.ensures.items) (record {
            so_far = fitting_more lots bids before.place c.index-bids-place.result w.sized.result before.fitting.items
                c.loop-place-test.true c.index-bids-place.is (sym c.fits.ensures ∙ w.if-fits.true) w.sized.ensures.same
                before.invariant.so_far;
            reported = All-push TellsItsSize before.fitting.items w.sized.result before.invariant.reported w.sized.ensures.reported;
            nets = All-push (TellsItsNet lots) before.fitting.items w.sized.result before.invariant.nets w.sized.ensures.net;
          })
      | else-fits w ↦
          rw w.fitting-is (record {
            so_far = fitting_less lots bids before.place c.index-bids-place.result before.fitting.items c.loop-place-test.true
                c.index-bids-place.is (sym c.fits.ensures ∙ w.if-fits.false) before.invariant.so_far;
            reported = before.invariant.reported;
            nets = before.invariant.nets;
          })
    ]
