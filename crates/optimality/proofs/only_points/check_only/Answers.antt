use Rattle.std.proofs.Common.{rules}
use Rattle.std.proofs.lemmas.Result.{on_ok_weaker}
use Rattle.optimality.specs.Answers.{IsVerdict}
use Rattle.optimality.specs.OnlyPoints.{only_fault}
use Rattle.optimality.proofs.OnlyFacts.{shown-is-only}
use Rattle.optimality.proofs.VerdictFacts.{shown, not-shown, only-verdict}
use Rattle.optimality.proofs.only_points.check_only.Goals as goal

pub returns-in-Ok-clause-shown : goal.returns-in-Ok-clause-shown
returns-in-Ok-clause-shown c =
    let first : IsVerdict c.check_lines.result (only_fault c.args.program.now c.args.first.now c.args.others.now c.args.text.now) = search rules in
    shown (only_fault c.args.program.now c.args.first.now c.args.others.now c.args.text.now) c.check_lines.result
    (only-verdict c.args.program.now c.args.first.now c.args.others.now c.args.text.now) first

pub returns-in-Ok-clause-only : goal.returns-in-Ok-clause-only
returns-in-Ok-clause-only c =
    let first : IsVerdict c.check_lines.result (only_fault c.args.program.now c.args.first.now c.args.others.now c.args.text.now) = search rules in
    on_ok_weaker c.check_lines.result (λ s point points. shown-is-only c.args.program.now c.args.first.now c.args.others.now s.0 point points s.2)
    (shown (only_fault c.args.program.now c.args.first.now c.args.others.now c.args.text.now) c.check_lines.result
    (only-verdict c.args.program.now c.args.first.now c.args.others.now c.args.text.now) first)

pub returns-in-Ok-clause-refused : goal.returns-in-Ok-clause-refused
returns-in-Ok-clause-refused c =
    let first : IsVerdict c.check_lines.result (only_fault c.args.program.now c.args.first.now c.args.others.now c.args.text.now) = search rules in
    not-shown (only_fault c.args.program.now c.args.first.now c.args.others.now c.args.text.now) c.check_lines.result
    (only-verdict c.args.program.now c.args.first.now c.args.others.now c.args.text.now) first
