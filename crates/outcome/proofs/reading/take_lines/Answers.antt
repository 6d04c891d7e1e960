use Rattle.std.proofs.Common.{◌≡◌, ◌∷◌, ◌++◌, ◌∙◌, [], Err, length, ap, rules, arith, length-append}
use Rattle.auction_terms.proofs.FirstFaultFacts.{checked-all, checked-fault, checked-more}
use Rattle.auction_terms.proofs.LineCountFacts.{lines-within}
use Rattle.auction_terms.specs.Lines.{lines_of, bytes_of}
use Rattle.outcome.specs.Solution.{solution_line_fault}
use Rattle.outcome.proofs.ParsedFacts.{unless_fine, fine_unless, message_of, parsed_some}
use Rattle.outcome.proofs.reading.take_lines.Goals as goal

pub overflow_add-place : goal.overflow_add-place
overflow_add-place c =
    let (before, so_far, place, count, said) = c.loop-line.invariant in
    omega (arith, lines-within c.args.text.now, count, c.requires.small)

pub loop-line-preserved : goal.loop-line-preserved
loop-line-preserved c =
    let (before, so_far, place, count, said) = c.loop-line.invariant in
    let line = c.in-Some.line.now in
    let columns = bytes_of c.args.columns.now.names.keys in
    let none = fine_unless _ _ _ (c.in_ok-take_line.ensures.answer before said (omega (arith, place))) in
    let more = checked-more (solution_line_fault columns) (lines_of c.args.text.now) before c.loop-line.lines c.next.new.self line so_far
    c.in-Some.ensures none in
    let n = length-append before (line ∷ []) in
    let fewer = ap length c.in-Some.ensures in
    (before ++ line ∷ [], more, omega (arith, place), omega (arith, fewer, count), c.in_ok-take_line.ensures.kept before c.requires.distinct said)

pub returns-in_err-take_line-clause-answer : goal.returns-in_err-take_line-clause-answer
returns-in_err-take_line-clause-answer c =
    let (before, so_far, place, count, said) = c.loop-line.invariant in
    let line = c.in-Some.line.now in
    let columns = bytes_of c.args.columns.now.names.keys in
    let same : c.from_residual.result ≡ Err c.in_err-take_line.field-0.0 = search rules in
    let some = parsed_some _ _ _ (c.in_err-take_line.ensures.answer before said (omega (arith, place))) in
    let first = checked-fault (solution_line_fault columns) (lines_of c.args.text.now) before c.loop-line.lines c.next.new.self line
    c.in_err-take_line.field-0.0 so_far c.in-Some.ensures some in
    same ∙ message_of _ _ _ first

pub returns-clause-answer : goal.returns-clause-answer
returns-clause-answer c =
    let (before, so_far, place, count, said) = c.loop-line.invariant in
    let end = checked-all (solution_line_fault (bytes_of c.args.columns.now.names.keys)) (lines_of c.args.text.now) before
    (rw c.in_default.ensures.0 at so_far) in
    unless_fine _ _ end.0

pub returns-clause-said : goal.returns-clause-said
returns-clause-said c =
    let (before, so_far, place, count, said) = c.loop-line.invariant in
    let end = checked-all (solution_line_fault (bytes_of c.args.columns.now.names.keys)) (lines_of c.args.text.now) before
    (rw c.in_default.ensures.0 at so_far) in
    rw end.1 said
