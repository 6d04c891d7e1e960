use Rattle.std.proofs.Common.{◌≡◌, ◌⊎◌, ◌∙◌, [], List, ℕ, Ok, ap, inl, slice_index_or, subst, sym}
use Rattle.auction_input.proofs.InputTextFacts.{Text}
use Rattle.auction_input.specs.Refused.{Refuses}
use Rattle.auction_input.specs.Settled.{held}
use Rattle.auction_input.specs.declared.refusal.Refusal.{Refusal}
use Rattle.auction_terms.specs.Lines.{bytes_of}
use Rattle.outcome.specs.Pricing.{Priced}
use Rattle.auction_input.proofs.StepFacts.{if-err-of}
use Rattle.answers.specs.Pricing.{IsTooWidePriced, covered, parsed_prices, priced}
use Rattle.answers.specs.inside.RuleHeld.{in_parts_held}
use Rattle.answers.proofs.PricingFacts.{not-covered, parsed-hold, pricing-covered, pricing-unruled}
use Rattle.answers.proofs.pricing.priced.Goals as goal

-- the text of a place, of the texts as they are held
at-place : (texts slice : List Text) (text : List ℕ) → slice ≡ texts → text ≡ slice_index_or (bytes_of slice) 0 [] → text ≡ slice_index_or (bytes_of texts) 0 []
at-place texts slice text same is = is ∙ ap (λ (xs : List Text). slice_index_or (bytes_of xs) 0 []) same

pub check_covered-requires-clause-prices : goal.check_covered-requires-clause-prices
check_covered-requires-clause-prices c = (parsed-hold (held c.args.auction.now) c.args.first.now c.text_at-text.result.now (in_parts_held c.in_ok-p.p)
    c.within_limits.ensures.bidders c.requires.best.feasible c.in_ok-p.ensures.parsed).0

pub check_covered-requires-clause-reserves : goal.check_covered-requires-clause-reserves
check_covered-requires-clause-reserves c = (parsed-hold (held c.args.auction.now) c.args.first.now c.text_at-text.result.now (in_parts_held c.in_ok-p.p)
    c.within_limits.ensures.bidders c.requires.best.feasible c.in_ok-p.ensures.parsed).1

pub is_by_rule-requires-clause-prices : goal.is_by_rule-requires-clause-prices
is_by_rule-requires-clause-prices c = (parsed-hold (held c.args.auction.now) c.args.first.now c.text_at-text.result.now (in_parts_held c.in_ok-p.p)
    c.within_limits.ensures.bidders c.requires.best.feasible c.in_ok-p.ensures.parsed).0

pub returns-in_err-check_covered-clause-refuses : goal.returns-in_err-check_covered-clause-refuses
returns-in_err-check_covered-clause-refuses c =
    let auction = held c.args.auction.now in
    let first = c.args.first.now in
    let text = slice_index_or auction.prices 0 [] in
    let cover = slice_index_or auction.covers 0 [] in
    let p = in_parts_held c.in_ok-p.p in
    let parsed = subst (λ (x : List ℕ). parsed_prices auction first x ≡ Ok p)
    (at-place c.args.auction.now.prices.items c.as_slice.result.now c.text_at-text.result.now c.as_slice.ensures.value
    c.text_at-text.ensures) c.in_ok-p.ensures.parsed in
    let is = at-place c.args.auction.now.covers.items c.as_slice-2.result.now c.text_at-cover.result.now c.as_slice-2.ensures.value c.text_at-cover.ensures in
    let r = c.in_err-check_covered.field-0.0 in
    if-err-of (λ (x : Refusal). Refuses (priced auction c.args.won.now first text cover) x ⊎ IsTooWidePriced auction first x)
    c.from_residual-in_err-check_covered.result r c.from_residual-in_err-check_covered.ensures.1
    (not-covered auction c.args.won.now first text cover p parsed c.text_at-cover.result.now r is c.in_err-check_covered.ensures.refuses)

pub returns-in_err-by_rule-clause-refuses : goal.returns-in_err-by_rule-clause-refuses
returns-in_err-by_rule-clause-refuses c =
    let auction = held c.args.auction.now in
    let first = c.args.first.now in
    let text = slice_index_or auction.prices 0 [] in
    let cover = slice_index_or auction.covers 0 [] in
    let p = in_parts_held c.in_ok-p.p in
    let parsed = subst (λ (x : List ℕ). parsed_prices auction first x ≡ Ok p)
    (at-place c.args.auction.now.prices.items c.as_slice.result.now c.text_at-text.result.now c.as_slice.ensures.value
    c.text_at-text.ensures) c.in_ok-p.ensures.parsed in
    let is = at-place c.args.auction.now.covers.items c.as_slice-2.result.now c.text_at-cover.result.now c.as_slice-2.ensures.value c.text_at-cover.ensures in
    let shown = subst (λ (x : List ℕ). covered auction first p x ≡ Ok tt) is c.in_ok-check_covered.ensures.parsed in
    let r = c.in_err-by_rule.field-0.0 in
    if-err-of (λ (x : Refusal). Refuses (priced auction c.args.won.now first text cover) x ⊎ IsTooWidePriced auction first x)
    c.from_residual-in_err-by_rule.result r c.from_residual-in_err-by_rule.ensures.1
    (inl (pricing-unruled auction c.args.won.now first text cover p parsed r shown c.in_err-by_rule.ensures.refuses))

pub returns-clause-parsed : goal.returns-clause-parsed
returns-clause-parsed c =
    let auction = held c.args.auction.now in
    let first = c.args.first.now in
    let text = slice_index_or auction.prices 0 [] in
    let cover = slice_index_or auction.covers 0 [] in
    let p = in_parts_held c.in_ok-p.p in
    let parsed = subst (λ (x : List ℕ). parsed_prices auction first x ≡ Ok p)
    (at-place c.args.auction.now.prices.items c.as_slice.result.now c.text_at-text.result.now c.as_slice.ensures.value
    c.text_at-text.ensures) c.in_ok-p.ensures.parsed in
    let is = at-place c.args.auction.now.covers.items c.as_slice-2.result.now c.text_at-cover.result.now c.as_slice-2.ensures.value c.text_at-cover.ensures in
    let shown = subst (λ (x : List ℕ). covered auction first p x ≡ Ok tt) is c.in_ok-check_covered.ensures.parsed in
    pricing-covered auction c.args.won.now first text cover p parsed c.in_ok-by_rule.by_rule shown c.in_ok-by_rule.ensures.parsed
    ∙ ap (λ (x : Priced). Ok x) (sym c.new.ensures)
