use Rattle.std.proofs.Common.{ap}
use Rattle.auction_input.specs.Refused.{Refuses}
use Rattle.auction_terms.specs.Stages.{refused_as}
use Rattle.auction_input.specs.ParsedTexts.{parsed_terms}
use Rattle.auction_input.specs.declared.refusal.Refusal.TheVariants as refusal
use Rattle.auction_input.proofs.FaultFacts.{rules-refuse}
use Rattle.auction_input.proofs.InputTextFacts.{rules-faulted, rules-parse}
use Rattle.auction_input.proofs.StepFacts.{if-err-of}
use Rattle.auction_input.proofs.auction.rules_in.Goals as goal

pub returns-clause-parsed : goal.returns-clause-parsed
returns-clause-parsed c =
    ap (λ r. refused_as refusal.Rules r) (rules-parse c.args.text.now c.in_ok-read_rules.field-0 c.in_ok-read_rules.ensures.too_large
    c.in_ok-read_rules.ensures.answer)

pub returns-in_err-read_rules-clause-refuses : goal.returns-in_err-read_rules-clause-refuses
returns-in_err-read_rules-clause-refuses c =
    let text = c.args.text.now in
    let f = c.in_err-read_rules.field-0.0 in
    let refused = rules-refuse f _ (rules-faulted text f c.in_err-read_rules.ensures.too_large c.in_err-read_rules.ensures.answer) in
    if-err-of (Refuses (parsed_terms text)) c.from_residual.result (refusal.Rules f) c.from_residual.ensures.1 refused
