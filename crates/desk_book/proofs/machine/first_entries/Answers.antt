use Rattle.std.proofs.Common.{arith}
use Rattle.desk_book.proofs.Copies.{right_next, one_more}
use Rattle.desk_book.proofs.machine.first_entries.Goals as goal

pub add_copy-requires : goal.add_copy-requires
add_copy-requires c =
    right_next c.history-history.result.now c.args.book.now c.history-history.ensures.entries c.loop-place.place c.index-history-place.result
    (omega (arith, c.loop-place-test.true, c.min-most.ensures)) c.index-history-place.is (λ form. form.bidder) c.history-history.ensures.legal c.loop-place.fresh
    c.loop-place.invariant

pub loop-place-preserved : goal.loop-place-preserved
loop-place-preserved c =
    one_more c.history-history.result.now c.args.book.now c.history-history.ensures.entries c.loop-place.place c.index-history-place.result
    (omega (arith, c.loop-place-test.true, c.min-most.ensures)) c.index-history-place.is c.loop-place.fresh c.add_copy.new.book c.loop-place.invariant
    c.in_ok-add_copy.ensures
