use Rattle.std.proofs.Common.{◌∙◌, ℕ, List, ap, ap₂, codes, map}
use Rattle.byte_sinks.proofs.AddingFacts.{Adds-to}
use Rattle.auction_terms.specs.declared.bids.Choice.{Choice}
use Rattle.byte_sinks.specs.Objects.{named_number, named_number_if, object_text}
use Rattle.byte_sinks.specs.Objects.Scalar.{Number}
use Rattle.byte_sinks.specs.Objects.Value.{Many}
use Rattle.outcome.specs.Pricing.{in_pounds, paid, price_in}
use Rattle.award_objects.specs.Objects.{in_lowest_terms}
use Rattle.award_objects.proofs.MemberFacts.{and_then, lone, of_value}
use Rattle.award_objects.proofs.sums.add_prices_sum.Goals as goal

pub returns : goal.returns
returns g c =
    let p = c.args.pricing.now in
    let same = c.choices-choices.ensures.choices in
    let pounds = c.paid_in_pounds.ensures.sum ∙ ap (λ (a : List Choice). paid (in_pounds p.parts (price_in p.prices)) a) same in
    let parts = c.paid.ensures.sum ∙ ap₂ (λ (prices : List ℕ) (a : List Choice). paid (price_in prices) a) c.prices.ensures same in
    let terms = c.in_lowest_terms-exact.ensures ∙ ap₂ (λ (m n : ℕ). map Number (in_lowest_terms m n)) c.parts.ensures.parts parts in
    let pays = c.number.ensures ∙ ap (named_number (codes "pays")) pounds in
    let exact = of_value c.list.result (codes "exact") _ c.list.ensures.name (c.list.ensures.value ∙ ap Many terms) in
    let alone = c.number_if.ensures ∙ ap (named_number_if (codes "alone")) c.all_alone.ensures in
    Adds-to c.add_object.ensures (ap object_text (and_then c.text.ensures (and_then pays (and_then exact (lone alone)))))
