use Rattle.std.proofs.Common.{◌∙◌, ap}
use Rattle.std.proofs.lemmas.Result.{on_ok_weaker}
use Rattle.clap.specs.Words.{App, rule_of, with_rule}
use Rattle.answers.specs.Asked.{for_forms}
use Rattle.answers.proofs.AskedFacts.{pushed}
use Rattle.answers.proofs.parser.add_with.Goals as goal

pub returns : goal.returns
returns c =
    let option = c.in_ok-command.ensures.shape c.requires.local ∙ ap (λ (a : App). with_rule a (rule_of c.args.option)) c.described.ensures in
    on_ok_weaker c.add.result (λ is. pushed _ _ c.in_ok-for_forms.field-0 _ is (c.in_ok-for_forms.ensures ∙ ap for_forms option)) c.add.ensures
