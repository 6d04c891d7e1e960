use Rattle.std.proofs.Common.{◌≡◌, [], arith}
use Rattle.auction_terms.specs.inside.RecordFields.{IsAtFieldEnd}
use Rattle.auction_terms.proofs.FieldFacts.{closed_at_end}
use Rattle.auction_terms.proofs.record_fields.closed_next.Goals as goal

pub returns-clause-given : goal.returns-clause-given
returns-clause-given c =
    let none : c.field_end.result ≡ 0 = (let more = c.if-field_end-gt0.false in omega arith) in
    let ends : IsAtFieldEnd c.split_at.result.1.now = rw none at c.field_end.ensures.end in
    rw c.split_at-2.ensures.front
    (closed_at_end [] c.args.bytes.now c.split_at.result.1.now c.in_ok-mark.mark c.in_ok-mark.ensures.0.high c.in_ok-mark.ensures.0.before
    c.in_ok-mark.ensures.1 c.split_at.ensures.back ends)
