use Rattle.std.proofs.Common.{◌≡◌, Err, sym, rules}
use Rattle.outcome.proofs.PointFacts.{solutions_are_points}
use Rattle.outcome.proofs.ParsedFacts.{faulty_line, no_point, parsed_point, too_long}
use Rattle.outcome.proofs.reading.read_solution.Goals as goal

pub returns-then-bytes-gt-SOLUTION_LIMIT-clause-answer : goal.returns-then-bytes-gt-SOLUTION_LIMIT-clause-answer
returns-then-bytes-gt-SOLUTION_LIMIT-clause-answer c = too_long c.args.program.now c.args.bytes.now c.if-bytes-gt-SOLUTION_LIMIT.true

pub returns-in_err-point-clause-answer : goal.returns-in_err-point-clause-answer
returns-in_err-point-clause-answer c =
    let same : c.from_residual.result ≡ Err c.in_err-point.field-0.0 = search rules in
    rw same (faulty_line c.args.program.now c.args.bytes.now c.in_err-point.field-0.0 c.if-bytes-gt-SOLUTION_LIMIT.false c.in_err-point.ensures)

pub returns-in_err-check_point-clause-answer : goal.returns-in_err-check_point-clause-answer
returns-in_err-check_point-clause-answer c =
    let same : c.from_residual-in_err-check_point.result ≡ Err c.in_err-check_point.field-0.0 = search rules in
    rw same (no_point c.args.program.now c.args.bytes.now c.in_err-check_point.field-0.0 c.in_ok-point.point
    c.if-bytes-gt-SOLUTION_LIMIT.false c.in_ok-point.ensures c.in_err-check_point.ensures)

pub returns-clause-answer : goal.returns-clause-answer
returns-clause-answer c = parsed_point c.args.program.now c.args.bytes.now c.in_ok-point.point c.if-bytes-gt-SOLUTION_LIMIT.false
    c.in_ok-point.ensures c.in_ok-check_point.ensures

pub returns-clause-point : goal.returns-clause-point
returns-clause-point c =
    let parsed = parsed_point c.args.program.now c.args.bytes.now c.in_ok-point.point c.if-bytes-gt-SOLUTION_LIMIT.false
    c.in_ok-point.ensures c.in_ok-check_point.ensures in
    solutions_are_points c.args.program.now c.args.bytes.now c.in_ok-point.point (sym parsed)
