-- What rules have for sale is within the limits.
use Rattle.std.proofs.Common.{◌≤◌, arith}
use Rattle.std.proofs.lemmas.List.{length-map}
use Rattle.std.proofs.lemmas.List.Elements.{All-map, recursion_from_All}
use Rattle.auction_terms.specs.declared.limits.TheConstants.{GREATEST_QUANTITY, GREATEST_VALUE, GREATEST_WEIGHT}
use Rattle.auction_terms.specs.declared.rules.Category.{Category}
use Rattle.auction_terms.specs.Terms.{Terms, AreTerms, lots_in}
use Rattle.auction_terms.specs.inside.Terms.{cap_of}
use Rattle.auction_terms.specs.Limits.{IsLots, IsWeightedCap}

pub are_lots : (t : Terms) → AreTerms t → IsLots (lots_in t)
are_lots t h =
    let count = length-map t.categories (λ (category : Category). category.supply) in
    let few = h.limits.category_count in
    let pools = length-map t.pools cap_of in
    let few_pools = h.limits.pool_count in
    record {
      categories = omega arith;
      supplies = recursion_from_All _ _ (All-map (λ n. n ≤ GREATEST_QUANTITY) (λ (category : Category). category.supply) t.categories
          (λ k d l. (h.limits.each_category k d l).supply));
      values = recursion_from_All _ _ (All-map (λ n. n ≤ GREATEST_VALUE) (λ (category : Category). category.value) t.categories
          (λ k d l. (h.limits.each_category k d l).value));
      few_pools = omega arith;
      pools = recursion_from_All _ _ (All-map IsWeightedCap cap_of t.pools
          (λ k d l. (let pool = h.limits.each_pool k d l in record {
            cap = pool.cap;
            weights = recursion_from_All (λ n. n ≤ GREATEST_WEIGHT)
                _ pool.weights;
          })));
    }
