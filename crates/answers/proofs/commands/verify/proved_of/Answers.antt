use Rattle.std.proofs.Common.{◌∙◌, List, Ok, Option, ap, inl, inr, refl, sym}
use Rattle.auction_terms.specs.declared.bids.Choice.{Choice}
use Rattle.auction_input.specs.Settled.{held}
use Rattle.outcome.specs.Others.{Others}
use Rattle.outcome.specs.Outcome.{Outcome}
use Rattle.outcome.specs.Pricing.{Priced}
use Rattle.auction_input.specs.declared.refusal.Refusal.TheVariants as refusal
use Rattle.answers.specs.inside.Proved.{IsUnproved}
use Rattle.auction_input.proofs.StepFacts.{if-err-of}
use Rattle.auction_input.proofs.StageFacts.{next, stop}
use Rattle.answers.proofs.VerifiedFacts.{certified-greatest}
use Rattle.answers.proofs.VerifyFacts.{unclaimed, unpriced, unshown}
use Rattle.answers.proofs.commands.verify.proved_of.Goals as goal

abbrev outcome : List (List Choice) → Option Priced → Others → Outcome
outcome won pricing others = record { won = won; pricing = pricing; others = others }

pub returns-clause-shown : goal.returns-clause-shown
returns-clause-shown g c =
    let all = c.as_slice-allocations.result.now in
    let won = c.in_ok-won.ensures.won ∙ ap (λ (xs : List (List Choice)). Ok xs) (sym c.as_slice-allocations.ensures.value) in
    next _ all _ _ (next _ all _ _ won c.in_ok-check_certificates.ensures.shown)
    (next _ c.in_ok-others.others _ _ c.in_ok-others.ensures.parsed (next _ c.in_ok-pricing.pricing _ _ c.in_ok-pricing.ensures.parsed refl))
    ∙ ap (λ (xs : List (List Choice)). Ok (outcome xs c.in_ok-pricing.pricing c.in_ok-others.others)) c.as_slice-allocations.ensures.value

pub returns-in_err-check_counts-clause-refused : goal.returns-in_err-check_counts-clause-refused
returns-in_err-check_counts-clause-refused g c =
    let r = c.in_err-check_counts.field-0.0 in
    if-err-of (IsUnproved (held c.args.auction.now)) c.from_residual.result r c.from_residual.ensures.1
    (inl (stop _ _ r (stop _ _ r c.in_err-check_counts.ensures.refuses)))

pub returns-in_err-compiler-clause-refused : goal.returns-in_err-compiler-clause-refused
returns-in_err-compiler-clause-refused g c =
    if-err-of (IsUnproved (held c.args.auction.now)) c.from_residual-in_err-compiler.result refusal.OutOfMemory
    c.from_residual-in_err-compiler.ensures.1 (inl (inr refl))

pub returns-in_err-won-clause-refused : goal.returns-in_err-won-clause-refused
returns-in_err-won-clause-refused g c =
    let r = c.in_err-won.field-0.0 in
    if-err-of (IsUnproved (held c.args.auction.now)) c.from_residual-in_err-won.result r c.from_residual-in_err-won.ensures.1
    (inl (stop _ _ r (stop _ _ r c.in_err-won.ensures.refuses)))

pub returns-in_err-check_certificates-clause-refused : goal.returns-in_err-check_certificates-clause-refused
returns-in_err-check_certificates-clause-refused g c =
    let r = c.in_err-check_certificates.field-0.0 in
    let won = c.in_ok-won.ensures.won ∙ ap (λ (xs : List (List Choice)). Ok xs) (sym c.as_slice-allocations.ensures.value) in
    if-err-of (IsUnproved (held c.args.auction.now)) c.from_residual-in_err-check_certificates.result r c.from_residual-in_err-check_certificates.ensures.1
    (unshown (held c.args.auction.now) c.as_slice-allocations.result.now r won c.in_err-check_certificates.ensures.refuses)

pub returns-in_err-others-clause-refused : goal.returns-in_err-others-clause-refused
returns-in_err-others-clause-refused g c =
    let r = c.in_err-others.field-0.0 in
    let won = c.in_ok-won.ensures.won ∙ ap (λ (xs : List (List Choice)). Ok xs) (sym c.as_slice-allocations.ensures.value) in
    if-err-of (IsUnproved (held c.args.auction.now)) c.from_residual-in_err-others.result r c.from_residual-in_err-others.ensures.1
    (unclaimed (held c.args.auction.now) c.as_slice-allocations.result.now r won c.in_ok-check_certificates.ensures.shown
    c.in_err-others.ensures.refuses)

pub returns-in_err-pricing-clause-refused : goal.returns-in_err-pricing-clause-refused
returns-in_err-pricing-clause-refused g c =
    let r = c.in_err-pricing.field-0.0 in
    let won = c.in_ok-won.ensures.won ∙ ap (λ (xs : List (List Choice)). Ok xs) (sym c.as_slice-allocations.ensures.value) in
    if-err-of (IsUnproved (held c.args.auction.now)) c.from_residual-in_err-pricing.result r c.from_residual-in_err-pricing.ensures.1
    (unpriced (held c.args.auction.now) c.as_slice-allocations.result.now c.in_ok-others.others r won
    c.in_ok-check_certificates.ensures.shown c.in_ok-others.ensures.parsed c.in_err-pricing.ensures.refuses)

pub pricing_of-requires-clause-without : goal.pricing_of-requires-clause-without
pricing_of-requires-clause-without g c =
    let won = c.in_ok-won.ensures.won ∙ ap (λ (xs : List (List Choice)). Ok xs) (sym c.as_slice-allocations.ensures.value) in
    certified-greatest (held c.args.auction.now) c.as_slice-allocations.result.now c.within_limits.ensures.book won
    c.in_ok-check_certificates.ensures.shown
