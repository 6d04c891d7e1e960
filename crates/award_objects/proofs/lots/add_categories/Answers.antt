use Rattle.std.proofs.Common.{◌<◌, ◌+◌, ap, arith, flat_map, get_or, length, refl, take}
use Rattle.std.specs.List.{zip}
use Rattle.byte_sinks.proofs.AddingFacts.{Adds-then, Adds-to}
use Rattle.byte_sinks.specs.Objects.{object_text}
use Rattle.award_objects.specs.Objects.{category_members}
use Rattle.award_objects.proofs.ListFacts.{bytes_more, pair_more, zip_all}
use Rattle.award_objects.proofs.lots.add_categories.Goals as goal

pub loop-place-preserved : goal.loop-place-preserved
loop-place-preserved g c =
    let categories = c.args.categories.now in
    let sold = c.args.sold.now in
    let at = c.loop-place.place in
    let category = c.index-categories-place.result in
    let same = c.requires in
    let inside : at < length sold = omega arith in
    let further = pair_more categories sold at category category 0 (get_or sold at 0) c.index-categories-place.is refl c.loop-place-test.true inside in
    Adds-to (Adds-then c.loop-place.invariant c.add_category.ensures)
    (bytes_more (λ item. object_text (category_members item)) (take at (zip categories sold)) (take (at + 1) (zip categories sold))
    (category, get_or sold at 0) further)

pub returns : goal.returns
returns g c = Adds-to c.loop-place.invariant (ap (flat_map (λ item. object_text (category_members item)))
    (zip_all c.args.categories.now c.args.sold.now c.loop-place.place c.loop-place-test.false))
