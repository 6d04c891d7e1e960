use Rattle.std.proofs.Common.{◌≡◌, ◌==◌, ◌∙◌, eq-eqb, false, get_or, ne_eqb, sym, true}
use Rattle.presolve.proofs.FormFacts.{last-other, last-own}
use Rattle.presolve.proofs.writing.last_form.Goals as goal
use Rattle.presolve.proofs.writing.last_form.Goals.{then-from-bidder, else-from-bidder}

pub loop-place-preserved : goal.loop-place-preserved
loop-place-preserved c =
    let bidders = c.args.bidders.now in
    let place = c.loop-place.place in
    elim c.if-from-bidder.branch [
      | then-from-bidder w ↦
          let own : (get_or bidders place 0 == c.args.bidder) ≡ true =
          eq-eqb (get_or bidders place 0) c.args.bidder (sym c.from.ensures ∙ w.if-from-bidder.true) in
          rw w.last-is (sym (last-own c.args.bidder place bidders c.loop-place-test.true own))
      | else-from-bidder w ↦
          let other : (get_or bidders place 0 == c.args.bidder) ≡ false =
          ne_eqb (get_or bidders place 0) c.args.bidder (λ same. w.if-from-bidder.false (c.from.ensures ∙ same)) in
          rw w.last-is (c.loop-place.invariant ∙ sym (last-other c.args.bidder place bidders c.loop-place-test.true other))
    ]
