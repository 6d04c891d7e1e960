use Rattle.std.proofs.Common.{length}
use Rattle.auction_input.proofs.InputTextFacts.{all-refused, if-added}
use Rattle.auction_input.specs.inside.InputTexts.{IsFirstErr}
use Rattle.auction_input.proofs.StepFacts.{if-err-weaker}
use Rattle.auction_input.proofs.reading.read_more.Goals as goal

pub returns-clause-parsed : goal.returns-clause-parsed
returns-clause-parsed g c = if-added c.args.rules.now c.args.texts.now c.in_ok-answers.answers.items c.args.forms.now.items
    c.add_forms.new.forms.items c.add_forms.result c.in_ok-answers.ensures c.add_forms.ensures.added

pub returns-clause-refuses : goal.returns-clause-refuses
returns-clause-refuses g c =
    if-err-weaker (IsFirstErr (length c.args.forms.now.items) c.in_ok-answers.answers.items) _ c.add_forms.result
    (λ e. all-refused c.args.rules.now (length c.args.forms.now.items) c.args.texts.now c.in_ok-answers.answers.items e
    c.in_ok-answers.ensures) c.add_forms.ensures.first
