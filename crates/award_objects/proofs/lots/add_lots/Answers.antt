use Rattle.std.proofs.Common.{◌∙◌, ◌++◌, List, ap, ap₂, flat_map}
use Rattle.std.specs.List.{zip}
use Rattle.auction_terms.specs.Terms.{Terms}
use Rattle.auction_terms.specs.declared.rules.Category.{Category}
use Rattle.auction_terms.specs.declared.rules.Pool.{Pool}
use Rattle.byte_sinks.proofs.AddingFacts.{Adds-then, Adds-to}
use Rattle.byte_sinks.specs.Objects.{object_text}
use Rattle.award_objects.specs.Objects.{category_members, pool_members}
use Rattle.award_objects.proofs.lots.add_lots.Goals as goal

pub returns : goal.returns
returns g c =
    let sold = c.args.sold.now in
    let categories = c.categories.ensures.value ∙ ap (λ (t : Terms). t.categories) c.rules-rules.ensures.rules in
    let pools = c.pools.ensures.value ∙ ap (λ (t : Terms). t.pools) c.rules-rules.ensures.rules in
    Adds-to (Adds-then c.add_categories.ensures c.add_pools.ensures)
    (ap₂ (λ (cs : List Category) (ps : List Pool). flat_map (λ item. object_text (category_members item)) (zip cs sold)
    ++ flat_map (λ pool. object_text (pool_members sold pool)) ps) categories pools)
