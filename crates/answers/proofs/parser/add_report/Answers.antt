use Rattle.std.proofs.Common.{◌∙◌, ap}
use Rattle.std.specs.Prelude.{codes}
use Rattle.std.proofs.lemmas.Result.{on_ok_weaker}
use Rattle.clap.specs.Words.{App, Rule, new_app, rule_of, with_rule}
use Rattle.answers.specs.Asked.{for_forms, workers}
use Rattle.answers.proofs.AskedFacts.{pushed}
use Rattle.answers.proofs.parser.add_report.Goals as goal

pub returns : goal.returns
returns c =
    let first =
    c.in_ok-arg.ensures.shape c.workers.ensures.local ∙ ap (λ (a : App). with_rule a (rule_of c.workers.result)) c.described.ensures
    ∙ ap (λ (r : Rule). with_rule (new_app (codes "report")) r) c.workers.ensures.rule in
    let second =
    c.in_ok-command.ensures.shape c.json.ensures.local ∙ ap (λ (a : App). with_rule a (rule_of c.json.result)) first
    ∙ ap (λ (r : Rule). with_rule (with_rule (new_app (codes "report")) workers) r) c.json.ensures.rule in
    on_ok_weaker c.add.result (λ is. pushed _ _ c.in_ok-for_forms.field-0 _ is (c.in_ok-for_forms.ensures ∙ ap for_forms second)) c.add.ensures
