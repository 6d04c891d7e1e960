use Rattle.std.proofs.Common.{◌≡◌, drop}
use Rattle.std.specs.Prelude.{nat_lt}
use Rattle.std.specs.List.{position_from}
use Rattle.auction_terms.specs.Packages.{WeightedCap, weighed}
use Rattle.auction_terms.specs.Terms.{lots_in}
use Rattle.presolve.proofs.reason.over_cap.Given as goal

-- what is found from here on is what is found
abbrev pub invariant-loop-pool : goal.invariant-loop-pool
invariant-loop-pool l =
    position_from (λ (pool : WeightedCap). nat_lt pool.cap (weighed pool.weights l.package)) 0 (lots_in l.rules).pools
    ≡ position_from (λ (pool : WeightedCap). nat_lt pool.cap (weighed pool.weights l.package)) l.pool (drop l.pool (lots_in l.rules).pools)
