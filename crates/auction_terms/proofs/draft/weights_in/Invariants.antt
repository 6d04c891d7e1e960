use Rattle.std.proofs.Common.{◌≡◌, map, take}
use Rattle.auction_terms.specs.inside.Entries.{weight_in}
use Rattle.auction_terms.proofs.draft.weights_in.Given as goal

abbrev pub invariant-loop-category : goal.invariant-loop-category
invariant-loop-category l = l.weights.items ≡ map (λ category. weight_in l.members l.pool category.name) (take l.category-index l.categories)
