use mir.Syntax.{w128}
use mir.Val.{of_z, to_z}
use Rattle.std.proofs.Common.{◌≡◌, ◌∙◌, ◌<◌, ◌++◌, ◌∷◌, [], ℕ, List, ap, ap₂, arith, get_or, length, map, pos, ◌-ℤ◌, refl, rules, sym}
use Rattle.std.proofs.lemmas.List.{get_or-map}
use Rattle.auction_terms.specs.Allocations.{total}
use Rattle.auction_terms.specs.declared.bids.Choice.{Choice}
use Rattle.bid_desk.specs.Sale.{sale_of}
use Rattle.byte_sinks.specs.Objects.{Scalar, scalar_seen}
use Rattle.byte_sinks.specs.Objects.Scalar.{Signed}
use Rattle.outcome.specs.Report.{amounts_of_group, cost}
use Rattle.award_objects.specs.Objects.{costs_by}
use Rattle.award_objects.proofs.ListFacts.{map_more, pair_more, zip_all}
use Rattle.award_objects.proofs.awards.costs_by.Goals as goal

pub loop-place-preserved : goal.loop-place-preserved
loop-place-preserved c =
    let outcome = c.args.outcome.now in
    let groups = outcome.groups.now in
    let won = outcome.won.now in
    let award = c.args.award.now in
    let at = c.loop-place.place in
    let within : at < length groups = omega (arith, c.loop-place-test.true, c.count-place-end.ensures.count) in
    let inside : at < length won = omega (arith, within, c.requires.count) in
    let sale = sale_of outcome.book.now in
    let of = λ (item : List ℕ × List Choice). cost sale.lots sale.book award item.0 item.1 in
    let group = c.group-group.result.now in
    let without = get_or won at [] in
    let listed : group ≡ get_or groups at [] = c.group-group.ensures ∙ ap (λ (n : ℕ). get_or groups n []) (omega arith) in
    let further = pair_more groups won at [] group [] without listed refl within inside in
    let costs = map_more of _ _ (group, without) further in
    let shown = map_more Signed _ _ (of (group, without)) costs in
    let pushed = map_more scalar_seen c.loop-place.costs.items c.push.new.self.items _ c.push.ensures.items in
    let left : get_or c.args.totals.now at 0 ≡ total sale.lots sale.book without =
    ap (λ (all : List ℕ). get_or all at 0) c.requires.totals ∙ get_or-map (total sale.lots sale.book) won at [] 0 inside in
    let theirs = c.amounts_in-theirs.ensures.sum ∙ ap (amounts_of_group sale.book group) c.choices-choices.ensures.choices in
    let is : c.cost_from.result ≡ of (group, without) = c.cost_from.ensures
    ∙ ap (λ (n : ℕ). pos n -ℤ (pos c.small_total-all.result -ℤ pos c.amounts_in-theirs.result)) left
    ∙ ap₂ (λ (m n : ℕ). pos (total sale.lots sale.book without) -ℤ (pos m -ℤ pos n)) c.small_total-all.ensures.total theirs in
    let whole : to_z w128 (of_z w128 c.cost_from.result) ≡ c.cost_from.result = search rules in
    let count = c.loop-place.invariant.count in
    let longer = c.push.ensures.len in
    record {
      costs = pushed ∙ ap₂ (λ (all : List Scalar) (it : Scalar). all ++ it ∷ []) c.loop-place.invariant.costs (ap Signed (whole ∙ is)) ∙ sym shown;
      count = omega arith;
    }

pub returns : goal.returns
returns c =
    let outcome = c.args.outcome.now in
    let sale = sale_of outcome.book.now in
    let end = c.loop-place-test.false in
    let count = c.count-place-end.ensures.count in
    c.loop-place.invariant.costs ∙ ap (λ (listed : List (List ℕ × List Choice)). map Signed (costs_by sale listed c.args.award.now))
    (zip_all outcome.groups.now outcome.won.now c.loop-place.place (omega arith))
