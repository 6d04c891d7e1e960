use Rattle.std.proofs.Common.{◌≡◌, ℕ, ◌∙◌, ap, length, rules}
use Rattle.std.proofs.lemmas.List.FromFn.{length-map-range_with_len}
use Rattle.auction_input.specs.PriceTexts.{weight_given}
use Rattle.auction_input.specs.declared.rule_weights.Subject.TheVariants as subject
use Rattle.answers.proofs.pricing.weights_for.Goals as goal

pub returns-clause-many : goal.returns-clause-many
returns-clause-many c =
    let count : c.count.result ≡ length c.args.auction.now.groups = search rules in
    ap length c.in_ok-groups.ensures
    ∙ length-map-range_with_len (λ (k : ℕ). weight_given c.args.aim c.args.given.now (subject.Group k)) 1 c.count.result ∙ count
