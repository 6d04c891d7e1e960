use Rattle.std.proofs.Common.{◌≡◌, drop, map}
use Rattle.std.specs.List.{list_all}
use Rattle.auction_terms.specs.inside.Packages.{is_within_cap}
use Rattle.auction_terms.specs.inside.Terms.{cap_of}
use Rattle.auction_terms.proofs.packages.within_caps.Given as goal

abbrev pub invariant-loop-pool : goal.invariant-loop-pool
invariant-loop-pool l = list_all (is_within_cap l.quantities) (map cap_of l.pools)
    ≡ list_all (is_within_cap l.quantities) (map cap_of (drop l.pool-index l.pools))
