use Rattle.std.proofs.Common.{◌∷◌, [], refl}
use Rattle.std.proofs.lemmas.List.{map-append}
use Rattle.auction_terms.specs.Entries.{pool_with}
use Rattle.auction_terms.proofs.draft.weighed_pools.Goals as goal

pub loop-name-preserved : goal.loop-name-preserved
loop-name-preserved c =
    let weights = rw c.as_bytes.ensures.bytes at c.weights_in-weights.ensures in
    rw (
      map-append (pool_with c.args.categories.now c.args.members.now) c.loop-name.yielded (c.in-Some.field-0 ∷
          []),
      c.in_ok-push.ensures.items,
      c.loop-name.invariant,
      weights,
      c.in-Some.name-is,
      c.in-Some.cap-is,
    ) refl
