use Rattle.std.proofs.Common.{◌≡◌, ◌∷◌, [], List, None, Some, ℕ, subst}
use Rattle.auction_input.proofs.StepFacts.{if-err-of}
use Rattle.auction_input.specs.Refused.{Refuses}
use Rattle.auction_input.specs.Settled.{held}
use Rattle.auction_input.specs.declared.refusal.Refusal.{Refusal}
use Rattle.answers.specs.Pricing.{fault_of_rule, parsed_by_rule}
use Rattle.answers.specs.inside.RuleHeld.{in_parts_held, rule_held}
use Rattle.answers.proofs.PricingFacts.{rule-shown, rule-unshown}
use Rattle.answers.proofs.pricing.shown_by.Goals as goal

pub returns-in_err-check_rule-clause-refuses : goal.returns-in_err-check_rule-clause-refuses
returns-in_err-check_rule-clause-refuses c =
    let auction = held c.args.auction.now in
    let first = c.args.first.now in
    let p = in_parts_held c.args.p.now in
    let rule = rule_held c.args.auction.now.groups c.args.won.now c.in_ok-read.read in
    let r = c.in_err-check_rule.field-0.0 in
    let found = subst (λ (costs : List ℕ). fault_of_rule auction first p costs rule ≡ Some r) c.as_slice.ensures.value c.in_err-check_rule.ensures.refused in
    if-err-of (λ (x : Refusal). Refuses (parsed_by_rule auction c.args.won.now first p (c.args.text.now ∷ [])) x)
    c.from_residual-in_err-check_rule.result r c.from_residual-in_err-check_rule.ensures.1
    (rule-unshown auction c.args.won.now first p c.args.text.now [] rule c.in_ok-costs.costs.items c.in_ok-read.ensures.parsed
    c.in_ok-costs.ensures.parsed r found)

pub returns-clause-parsed : goal.returns-clause-parsed
returns-clause-parsed c =
    let auction = held c.args.auction.now in
    let first = c.args.first.now in
    let p = in_parts_held c.args.p.now in
    let rule = rule_held c.args.auction.now.groups c.args.won.now c.in_ok-read.read in
    let none = subst (λ (costs : List ℕ). fault_of_rule auction first p costs rule ≡ None) c.as_slice.ensures.value c.in_ok-check_rule.ensures.shown in
    rule-shown auction c.args.won.now first p c.args.text.now [] rule c.in_ok-costs.costs.items c.in_ok-read.ensures.parsed
    c.in_ok-costs.ensures.parsed none
