use Rattle.std.proofs.Common.{Err, Ok, ap, sym}
use Rattle.auction_input.specs.Refused.{Refuses}
use Rattle.auction_terms.specs.GroupsText.{groups_of, is_groups_memory}
use Rattle.auction_terms.specs.declared.groups_text.GroupFault.TheVariants as group_fault
use Rattle.auction_terms.specs.Stages.{refused_as}
use Rattle.auction_input.specs.ParsedTexts.{parsed_groups}
use Rattle.auction_input.specs.declared.refusal.Refusal.TheVariants as refusal
use Rattle.auction_input.proofs.FaultFacts.{groups-refuse}
use Rattle.auction_input.proofs.InputTextFacts.{sized-answers}
use Rattle.auction_input.proofs.StepFacts.{if-err-of}
use Rattle.auction_input.proofs.auction.groups_in.Goals as goal

pub returns-clause-parsed : goal.returns-clause-parsed
returns-clause-parsed c =
    ap (λ r. refused_as refusal.Groups r) (sym (sized-answers is_groups_memory group_fault.TooLarge (groups_of c.args.rules.now.bidders)
    c.args.text.now (Ok c.in_ok-read_groups.field-0)
    c.in_ok-read_groups.ensures.too_large c.in_ok-read_groups.ensures.answer))

pub returns-in_err-read_groups-clause-refuses : goal.returns-in_err-read_groups-clause-refuses
returns-in_err-read_groups-clause-refuses c =
    let text = c.args.text.now in
    let f = c.in_err-read_groups.field-0.0 in
    let refused = groups-refuse f _ (sized-answers is_groups_memory group_fault.TooLarge (groups_of c.args.rules.now.bidders) text (Err f)
    c.in_err-read_groups.ensures.too_large c.in_err-read_groups.ensures.answer) in
    if-err-of (Refuses (parsed_groups c.args.rules.now text)) c.from_residual.result (refusal.Groups f) c.from_residual.ensures.1 refused
