use Rattle.std.proofs.Common.{ℕ, ◌+◌, length, sym, ap, ◌∙◌}
use Rattle.std.specs.Str.Parse.{digits_value_after}
use Rattle.auction_terms.proofs.FoldingFacts.{fits}
use Rattle.auction_terms.proofs.TokenFacts.{after-append}
use Rattle.auction_terms.proofs.token.value_of.Goals as goal

pub returns-clause-value : goal.returns-clause-value
returns-clause-value c = c.digits_after.ensures.value ∙ ap (λ (v : ℕ). digits_value_after 10 v c.args.back.now)
    c.digits_after-value.ensures.value ∙ sym (after-append 0 c.args.front.now c.args.back.now)

pub returns-clause-low : goal.returns-clause-low
returns-clause-low c = fits _ (length c.args.front.now + length c.args.back.now) c.digits_after.ensures.low c.requires.few
