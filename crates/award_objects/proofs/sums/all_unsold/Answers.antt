use Rattle.std.proofs.Common.{◌∙◌, ◌+◌, ◌<◌, ℕ, ap, ap₂, arith, get_or, length, refl, take}
use Rattle.std.specs.Prelude.{sum_by}
use Rattle.std.specs.List.{zip}
use Rattle.award_objects.specs.Objects.{unsold}
use Rattle.award_objects.proofs.ListFacts.{pair_more, sum_more, zip_all}
use Rattle.award_objects.proofs.sums.all_unsold.Goals as goal

pub loop-place-preserved : goal.loop-place-preserved
loop-place-preserved c =
    let categories = c.args.categories.now in
    let sold = c.args.sold.now in
    let at = c.loop-place.place in
    let category = c.index-categories-place.result in
    let same = c.requires in
    let inside : at < length sold = omega arith in
    let further = pair_more categories sold at category category 0 (get_or sold at 0) c.index-categories-place.is refl c.loop-place-test.true inside in
    let next = sum_more unsold (take at (zip categories sold)) (take (at + 1) (zip categories sold)) (category, get_or sold at 0) further in
    let small = c.unsold-sum.ensures.small in
    record {
      sum_is = ap₂ (λ (m n : ℕ). m + n) c.loop-place.invariant.sum_is c.unsold-sum.ensures.lots ∙ next;
      small = omega arith;
    }

pub returns-clause-sum : goal.returns-clause-sum
returns-clause-sum c = c.loop-place.invariant.sum_is ∙ ap (sum_by unsold) (zip_all c.args.categories.now c.args.sold.now c.loop-place.place c.loop-place-test.false)
