use Rattle.std.proofs.Common.{◌≡◌, ◌∙◌, ◌+◌, ◌<◌, [], ℕ, List, ap, arith, flat_map, get_or, length, refl, take}
use Rattle.std.specs.List.{enumerate_from, zip}
use Rattle.auction_terms.specs.declared.bids.Choice.{Choice}
use Rattle.byte_sinks.proofs.AddingFacts.{Adds-then, Adds-to}
use Rattle.bid_desk.specs.Sale.{sale_of}
use Rattle.award_objects.specs.Objects.{group_objects}
use Rattle.award_objects.proofs.ListFacts.{bytes_more, numbered_pair, numbered_pairs}
use Rattle.award_objects.proofs.groups.add_groups.Goals as goal

pub loop-place-preserved : goal.loop-place-preserved
loop-place-preserved g c =
    let outcome = c.args.outcome.now in
    let groups = outcome.groups.now in
    let won = outcome.won.now in
    let at = c.loop-place.place in
    let within : at < length groups = omega (arith, c.loop-place-test.true, c.count-place-end.ensures.count) in
    let inside : at < length won = omega (arith, within, c.requires) in
    let group : c.group-group.result.now ≡ get_or groups at [] = c.group-group.ensures ∙ ap (λ (n : ℕ). get_or groups n []) (omega arith) in
    let without = get_or won at c.index-outcome-place.result in
    let further = numbered_pair 1 groups won at (at + 1) [] c.group-group.result.now c.index-outcome-place.result without group refl within inside (omega arith) in
    Adds-to (Adds-then c.loop-place.invariant c.add_group_and_winners.ensures)
    (bytes_more (λ (e : ℕ × (List ℕ × List Choice)). group_objects outcome.book.now.rules (sale_of outcome.book.now) outcome.pricing.now c.args.first.now e.0 e.1)
    (take at (enumerate_from 1 (zip groups won))) (take (at + 1) (enumerate_from 1 (zip groups won))) (at + 1, (c.group-group.result.now, without)) further)

pub returns : goal.returns
returns g c =
    let outcome = c.args.outcome.now in
    let end = c.loop-place-test.false in
    let count = c.count-place-end.ensures.count in
    Adds-to c.loop-place.invariant (ap (flat_map (λ (e : ℕ × (List ℕ × List Choice)). group_objects outcome.book.now.rules (sale_of outcome.book.now)
    outcome.pricing.now c.args.first.now e.0 e.1)) (numbered_pairs 1 outcome.groups.now outcome.won.now c.loop-place.place (omega arith)))
