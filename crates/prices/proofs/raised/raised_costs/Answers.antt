use Rattle.std.proofs.Common.{◌<◌, ◌∙◌, ◌++◌, ◌∷◌, [], ap, arith, length, rules, w64, ℕ, ℤ}
use Rattle.std.proofs.lemmas.Int.{to_z-of_z}
use mir.Val.{SFits}
use Rattle.bid_desk.specs.Closing.{book_of}
use Rattle.outcome.specs.Pricing.{price_in}
use Rattle.prices.specs.Blocking.{surplus}
use Rattle.prices.specs.Raised.{raised_cost}
use Rattle.prices.proofs.CodeFacts.{cost_pushed}
use Rattle.prices.proofs.raised.raised_costs.Goals as goal

pub loop-column-preserved : goal.loop-column-preserved
loop-column-preserved c =
    let payments = c.args.payments.now in
    let raise : ℕ → ℕ = surplus (book_of payments.book.now) payments.first.now payments.parts (price_in payments.prices.now) in
    let columns = c.args.program.now.columns in
    let within : c.loop-column.column < length columns = omega (arith, c.loop-column-test.true, c.column_count-column-end.ensures) in
    let fits : SFits w64 c.raised_cost.result = search rules in
    let pushed = ap (λ (z : ℤ). c.loop-column.costs.items ++ z ∷ []) (to_z-of_z w64 c.raised_cost.result fits) in
    cost_pushed (raised_cost payments.parts raise) columns c.loop-column.column c.loop-column.costs.items c.push.new.self.items c.raised_cost.result
    c.raised_cost.ensures.cost within (c.in_ok-push.ensures.items ∙ pushed) c.loop-column.invariant
