use Rattle.std.proofs.Common.{◌≡◌, ◌∙◌, arith, length, length-take, min}
use Rattle.presolve.proofs.SieveFacts.{none_itself}
use Rattle.presolve.proofs.search.first_beating.Goals as goal

pub first_sifted-requires-clause-sifts : goal.first_sifted-requires-clause-sifts
first_sifted-requires-clause-sifts c = λ i d within beaten.
    let long : length c.leave_others.new.left ≡ min c.div_ceil.result 63 = c.leave_others.ensures.count ∙ length-take c.div_ceil.result _ in
    let most = c.requires.many in
    let words = c.div_ceil.ensures in
    c.leave_others.ensures.others i (omega arith) (none_itself c.args.bid.now c.args.rivals.now c.args.place i d c.requires.bid within beaten)
