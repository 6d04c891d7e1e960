use Rattle.std.proofs.Common.{◌≡◌, ◌≤◌, ◌+◌, ◌*◌, ◌^◌, drop, map}
use Rattle.auction_terms.specs.Packages.{weighed}
use Rattle.auction_terms.proofs.worth.worth_of.Given as goal

abbrev pub invariant-loop-place : goal.invariant-loop-place
invariant-loop-place l = (l.sum + weighed (drop l.place (map (λ category. category.value) l.categories)) (drop l.place l.quantities) ≡
    weighed (map (λ category. category.value) l.categories) l.quantities) × (l.sum ≤ 10 ^ 17 * l.place)
