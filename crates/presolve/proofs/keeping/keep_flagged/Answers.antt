use Rattle.std.proofs.Common.{◌<◌, length, refl, sym, subst, arith}
use Rattle.std.proofs.lemmas.List.Elements.{All-push}
use Rattle.auction_terms.specs.Bids.{IsKeptBid}
use Rattle.bid_forms.specs.Offers.{IsBidWithinLimits}
use Rattle.presolve.proofs.KeepFacts.{flagged_less, flagged_more}
use Rattle.presolve.proofs.keeping.keep_flagged.Goals as goal
use Rattle.presolve.proofs.keeping.keep_flagged.Goals.{then-flags-place+in_ok-push, else-flags-place}

pub loop-place-preserved : goal.loop-place-preserved
loop-place-preserved c =
    let before = c.loop-place in
    let bids = c.args.bids.now in
    let flags = c.args.flags.now in
    let long : before.place < length flags = (let l = c.loop-place-test.true in let s = c.requires.flags in omega arith) in
    let x = c.index-bids-place.result in
    let limits : IsBidWithinLimits x = subst IsBidWithinLimits (sym c.index-bids-place.is) (c.requires.limits before.place x c.loop-place-test.true) in
    elim c.if-flags-place.branch [
      | then-flags-place+in_ok-push w ↦
          record {
            so_far = rw (w.kept-is, w.in_ok-push.ensures.items)
                (flagged_more c.args.bidder before.place bids flags x _ before.kept.items _ c.loop-place-test.true long
                c.index-bids-place.is w.if-flags-place.true refl before.invariant.so_far);
            each = rw (w.kept-is, w.in_ok-push.ensures.items) (All-push IsKeptBid before.kept.items _ before.invariant.each record {
              some_bidder = c.requires.some;
              bidders = c.requires.bidders;
              some_bid = omega arith;
              bids = (let l = c.loop-place-test.true in let f = c.requires.few in omega arith);
              quantities = limits.quantities;
              some_amount = limits.some_amount;
              amounts = limits.amount;
            });
          }
      | else-flags-place w ↦
          record {
            so_far = rw w.kept-is (flagged_less c.args.bidder before.place bids flags x before.kept.items _ c.loop-place-test.true long
                c.index-bids-place.is w.if-flags-place.false before.invariant.so_far);
            each = rw w.kept-is before.invariant.each;
          }
    ]
