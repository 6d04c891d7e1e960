use Rattle.std.proofs.Common.{◌≡◌, drop, map}
use Rattle.auction_terms.specs.Packages.{is_within}
use Rattle.auction_terms.proofs.packages.within_supply.Given as goal

abbrev pub invariant-loop-place : goal.invariant-loop-place
invariant-loop-place l = is_within l.quantities (map (λ category. category.supply) l.categories)
    ≡ is_within (drop l.place l.quantities) (map (λ category. category.supply) (drop l.place l.categories))
