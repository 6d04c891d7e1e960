use Rattle.std.proofs.Common.{arith}
use Rattle.std.proofs.lemmas.Fmt.{length-decimal-le, decimal_nonempty}
use Rattle.program_rows.proofs.BuildFacts.{numbered_written}
use Rattle.program_rows.proofs.names.write_numbered.Goals as goal

pub write_digits-at-requires : goal.write_digits-at-requires
write_digits-at-requires c =
    let short = length-decimal-le 5 c.from.result (omega arith) (omega arith) (omega arith) in
    (omega arith, c.requires.within)

pub overflow_sub-name : goal.overflow_sub-name
overflow_sub-name c =
    let short = length-decimal-le 5 c.from.result (omega arith) (omega arith) (omega arith) in
    omega arith

pub overflow_sub-result : goal.overflow_sub-result
overflow_sub-result c =
    let short = length-decimal-le 5 c.from.result (omega arith) (omega arith) (omega arith) in
    omega arith

pub returns-clause-written : goal.returns-clause-written
returns-clause-written c =
    let short = length-decimal-le 5 c.from.result (omega arith) (omega arith) (omega arith) in
    let some = decimal_nonempty c.from.result (omega arith) in
    numbered_written _ c.args.name.now c.args.letter c.write_digits-at.result c.from.result c.args.number c.args.end c.from.ensures
    (omega arith) (omega arith) c.write_digits-at.ensures.written

pub returns-clause-start : goal.returns-clause-start
returns-clause-start c =
    let short = length-decimal-le 5 c.from.result (omega arith) (omega arith) (omega arith) in
    omega arith
