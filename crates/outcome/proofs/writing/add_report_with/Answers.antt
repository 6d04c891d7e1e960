use Rattle.std.proofs.Common.{◌≡◌, ◌<◌, ◌∷◌, [], List, length, slice_index_or, arith, rules}
use Rattle.byte_sinks.proofs.AddingFacts.{Adds-then}
use Rattle.auction_terms.specs.declared.bids.Choice.{Choice}
use Rattle.outcome.proofs.writing.add_report_with.Goals as goal

first-is : (won : List (List Choice)) (first : List Choice) → 0 < length won → first ≡ slice_index_or won 0 first → first ≡ slice_index_or won 0 []
first-is [] first some is = absurd (omega arith)
first-is (a ∷ won) first some is = is

pub returns : goal.returns
returns g c =
    let some : 0 < length c.args.allocations.now = search rules in
    let first = first-is c.args.allocations.now c.index-allocations-0.result some c.index-allocations-0.is in
    Adds-then c.add_report.ensures (Adds-then (rw first at c.add_pricing.ensures) c.add_others.ensures)
