use Rattle.std.proofs.Common.{◌≡◌, ◌≤◌, ◌+◌, ◌*◌, ◌^◌, drop, map}
use Rattle.auction_terms.specs.Packages.{weighed}
use Rattle.auction_terms.proofs.worth.worth_of_supply.Given as goal

abbrev pub invariant-loop-category : goal.invariant-loop-category
invariant-loop-category l = (l.sum + weighed (map (λ category. category.value) (drop l.category-index l.categories))
    (map (λ category. category.supply) (drop l.category-index l.categories))
    ≡ weighed (map (λ category. category.value) l.categories) (map (λ category. category.supply) l.categories)) × (l.sum
    ≤ 10 ^ 17 * l.category-index)
