use Rattle.std.proofs.Common.{rules}
use Rattle.std.proofs.lemmas.Result.{on_ok_weaker}
use Rattle.optimality.specs.Answers.{IsVerdict}
use Rattle.optimality.specs.Verdict.{certificate_fault}
use Rattle.optimality.proofs.BoundFacts.{shown-is-bound}
use Rattle.optimality.proofs.VerdictFacts.{shown, not-shown, verdict}
use Rattle.optimality.proofs.reader.check_selection.Goals as goal

pub returns-in-Ok-clause-shown : goal.returns-in-Ok-clause-shown
returns-in-Ok-clause-shown c =
    let first : IsVerdict c.check_lines.result (certificate_fault c.args.program.now c.args.least c.args.text.now) = search rules in
    shown (certificate_fault c.args.program.now c.args.least c.args.text.now) c.check_lines.result
    (verdict c.args.program.now c.args.least c.args.text.now) first

pub returns-in-Ok-clause-sound : goal.returns-in-Ok-clause-sound
returns-in-Ok-clause-sound c =
    let first : IsVerdict c.check_lines.result (certificate_fault c.args.program.now c.args.least c.args.text.now) = search rules in
    on_ok_weaker c.check_lines.result (λ s. shown-is-bound c.args.program.now c.args.least s.0 s.2)
    (shown (certificate_fault c.args.program.now c.args.least c.args.text.now) c.check_lines.result
    (verdict c.args.program.now c.args.least c.args.text.now) first)

pub returns-in-Ok-clause-refused : goal.returns-in-Ok-clause-refused
returns-in-Ok-clause-refused c =
    let first : IsVerdict c.check_lines.result (certificate_fault c.args.program.now c.args.least c.args.text.now) = search rules in
    not-shown (certificate_fault c.args.program.now c.args.least c.args.text.now) c.check_lines.result
    (verdict c.args.program.now c.args.least c.args.text.now) first
