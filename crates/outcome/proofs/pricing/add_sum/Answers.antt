use Rattle.std.proofs.Common.{◌≡◌, ◌∙◌, ℕ, ◌∷◌, [], ◌++◌, List, ap, ap₂}
use Rattle.std.specs.Prelude.{codes}
use Rattle.byte_sinks.proofs.AddingFacts.{Adds-then, Adds-to}
use Rattle.outcome.specs.Pricing.{amount_text, in_pounds, paid, price_in}
use Rattle.outcome.proofs.pricing.add_sum.Goals as goal

-- the line of these numbers
abbrev line : ℕ → ℕ → ℕ → List ℕ
line parts pounds exact = codes "sum " ++ (amount_text parts pounds exact ++ 10 ∷ [])

pub returns : goal.returns
returns g c =
    let pricing = c.args.pricing.now in
    let pounds : ℕ = paid (in_pounds pricing.parts (price_in pricing.prices)) c.args.choices.now in
    let exact : ℕ = paid (price_in pricing.prices) c.args.choices.now in
    let exact_is = c.paid-exact.ensures.sum ∙ ap (λ (prices : List ℕ). paid (price_in prices) c.args.choices.now) c.prices.ensures in
    let same : line c.parts.result c.paid_in_pounds-pounds.result c.paid-exact.result ≡ line pricing.parts pounds exact =
    ap (λ (n : ℕ). line n c.paid_in_pounds-pounds.result c.paid-exact.result) c.parts.ensures.parts
    ∙ ap₂ (λ (p e : ℕ). line pricing.parts p e) c.paid_in_pounds-pounds.ensures.sum exact_is in
    Adds-to (Adds-then c.add.ensures c.add_amount.ensures) same
