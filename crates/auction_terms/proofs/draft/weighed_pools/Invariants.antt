use Rattle.std.proofs.Common.{◌≡◌, map}
use Rattle.auction_terms.specs.Entries.{pool_with}
use Rattle.auction_terms.proofs.draft.weighed_pools.Given as goal

abbrev pub invariant-loop-name : goal.invariant-loop-name
invariant-loop-name l = l.pools.items ≡ map (pool_with l.categories l.members) l.yielded
