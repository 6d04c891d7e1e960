use Rattle.std.proofs.Common.{ℕ, ◌∷◌, [], ◌++◌, List, append_assoc, rules}
use Rattle.bid_desk.specs.Sale.{bidder_name, sale_of}
use Rattle.byte_sinks.proofs.AddingFacts.{Adds-then, Adds-to}
use Rattle.outcome.specs.Pricing.{amount_text, in_pounds, price_in}
use Rattle.outcome.proofs.pricing.add_price.Goals as goal

pub returns : goal.returns
returns g c =
    let name : List ℕ = bidder_name (sale_of c.args.book.now).names c.args.choice.bidder in
    let pricing = c.args.pricing.now in
    let paid : ℕ = in_pounds pricing.parts (price_in pricing.prices) c.args.choice.bidder in
    let exact : ℕ = price_in pricing.prices c.args.choice.bidder in
    let rest : List ℕ = amount_text pricing.parts paid exact ++ 10 ∷ [] in
    let amount = rw (c.from-2.ensures, c.from.ensures, c.parts.ensures.parts, c.pounds-pounds.ensures, c.price_of-exact.ensures, c.prices.ensures)
    at c.add_amount.ensures in
    Adds-to (Adds-then {xs = name ++ 32 ∷ []} {ys = rest} (Adds-to c.add_pieces.ensures (search rules)) amount) (append_assoc name (32 ∷ []) rest)
