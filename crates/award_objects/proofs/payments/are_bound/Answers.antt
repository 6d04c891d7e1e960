use Rattle.std.proofs.Common.{◌≡◌, ◌∙◌, ◌<◌, ◌++◌, ◌∷◌, [], ℕ, Bool, List, ap, ap₂, arith, get_or, length, map, refl, sym}
use Rattle.bid_desk.specs.Sale.{sale_of}
use Rattle.award_objects.specs.Objects.{is_bound}
use Rattle.award_objects.proofs.ListFacts.{map_more, pair_more, zip_all}
use Rattle.award_objects.proofs.payments.are_bound.Goals as goal

pub loop-place-preserved : goal.loop-place-preserved
loop-place-preserved c =
    let groups = c.args.outcome.now.groups.now in
    let won = c.args.outcome.now.won.now in
    let at = c.loop-place.place in
    let within : at < length groups = omega (arith, c.loop-place-test.true, c.count-place-end.ensures.count) in
    let inside : at < length won = omega (arith, within, c.requires) in
    let group : c.group-group.result.now ≡ get_or groups at [] = c.group-group.ensures ∙ ap (λ (n : ℕ). get_or groups n []) (omega arith) in
    let of = is_bound (sale_of c.args.outcome.now.book.now) c.args.pricing.now c.args.first.now in
    let without = get_or won at c.index-outcome-place.result in
    let further = pair_more groups won at [] c.group-group.result.now c.index-outcome-place.result without group refl within inside in
    let all = map_more of _ _ (c.group-group.result.now, without) further in
    let count = c.loop-place.invariant.count in
    let longer = c.push.ensures.len in
    record {
      bound = c.push.ensures.items ∙ ap₂ (λ (all : List Bool) (it : Bool). all ++ it ∷ []) c.loop-place.invariant.bound c.is_bound.ensures ∙ sym all;
      count = omega arith;
    }

pub returns : goal.returns
returns c =
    let outcome = c.args.outcome.now in
    let end = c.loop-place-test.false in
    let count = c.count-place-end.ensures.count in
    c.loop-place.invariant.bound ∙ ap (map (is_bound (sale_of outcome.book.now) c.args.pricing.now c.args.first.now))
    (zip_all outcome.groups.now outcome.won.now c.loop-place.place (omega arith))
