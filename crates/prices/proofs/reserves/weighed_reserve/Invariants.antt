use Rattle.std.proofs.Common.{◌≡◌, ◌≤◌, ◌+◌, ◌*◌, ◌^◌, drop, map}
use Rattle.auction_terms.specs.Packages.{weighed}
use Rattle.prices.proofs.reserves.weighed_reserve.Given as goal

abbrev pub invariant-loop-place : goal.invariant-loop-place
invariant-loop-place l = (l.sum + weighed (drop l.place (map (λ category. category.reserve) l.categories)) (drop l.place l.quantities) ≡
    weighed (map (λ category. category.reserve) l.categories) l.quantities) × (l.sum ≤ 10 ^ 17 * l.place)
