use Rattle.std.proofs.Common.{sym, arith}
use Rattle.std.proofs.lemmas.List.{length-take-le, take_all}
use Rattle.desk_book.proofs.heads.head_room.Goals as goal

pub slice_bounds-result-end : goal.slice_bounds-result-end
slice_bounds-result-end c =
    let more = c.if-bytes-le-HEAD_LIMIT.false in sym (length-take-le 1024 c.args.bytes.now (omega (arith, more)))

pub returns-then-bytes-le-HEAD_LIMIT-clause-room : goal.returns-then-bytes-le-HEAD_LIMIT-clause-room
returns-then-bytes-le-HEAD_LIMIT-clause-room c = sym (take_all 1024 c.args.bytes.now c.if-bytes-le-HEAD_LIMIT.true)

pub returns-else-bytes-le-HEAD_LIMIT-clause-within : goal.returns-else-bytes-le-HEAD_LIMIT-clause-within
returns-else-bytes-le-HEAD_LIMIT-clause-within c =
    let more = c.if-bytes-le-HEAD_LIMIT.false in
    let len = length-take-le 1024 c.args.bytes.now (omega (arith, more)) in
    (omega (arith, len, more), omega (arith, len))
