use Rattle.std.proofs.Common.{◌≡◌, ◌≤◌, ◌∙◌, ◌<◌, ℕ, List, ap, arith, length, map, rules, sym}
use Rattle.std.specs.Prelude.{slice_index, slice_index_or}
use Rattle.std.proofs.lemmas.List.{get_or-map}
use Rattle.auction_terms.specs.Terms.{lots_in}
use Rattle.auction_terms.specs.declared.rules.Category.{Category}
use Rattle.presolve.proofs.SearchFacts.{supply-found, supply-passed}
use Rattle.presolve.proofs.reason.over_supply.Goals as goal

-- the supply of a category, in the words of lists
supply_at : (categories held : List Category) (place : ℕ) (x : Category) → held ≡ categories → place < length held → x ≡ slice_index_or held place x
    → x.supply ≡ slice_index (map (λ (category : Category). category.supply) categories) place
supply_at categories held place x same within is =
    ap (λ (y : Category). y.supply) is ∙ sym (get_or-map (λ (y : Category). y.supply) held place x 0 within)
    ∙ ap (λ (ys : List Category). slice_index (map (λ (y : Category). y.supply) ys) place) same

pub loop-category-preserved : goal.loop-category-preserved
loop-category-preserved c =
    let quantities = c.args.package.now in
    let supplies = (lots_in c.args.rules.now).supply in
    let place = c.loop-category.category in
    let inside : place < length c.categories.result.now = search rules in
    let supply : c.index-categories-category.result.supply ≡ slice_index supplies place =
    supply_at c.args.rules.now.categories c.categories.result.now place c.index-categories-category.result c.categories.ensures.value inside
    c.index-categories-category.is in
    let within : slice_index quantities place ≤ slice_index supplies place = rw (← supply) (search rules) in
    c.loop-category.invariant ∙ supply-passed supplies quantities place (rw c.quantities-quantities.ensures.quantities at c.loop-category-test.true) within

pub returns-then-asked-supply : goal.returns-then-asked-supply
returns-then-asked-supply c =
    let supplies = (lots_in c.args.rules.now).supply in
    let place = c.loop-category.category in
    let x = c.index-categories-category.result in
    let inside : place < length c.categories.result.now = search rules in
    let supply : x.supply ≡ slice_index supplies place =
    supply_at c.args.rules.now.categories c.categories.result.now place x c.categories.ensures.value inside c.index-categories-category.is in
    let held : (slice_index_or c.categories.result.now place x).supply ≡ slice_index supplies place =
    sym (ap (λ (y : Category). y.supply) c.index-categories-category.is) ∙ supply in
    let beyond : slice_index supplies place < c.from-asked.result = (let test = c.if-asked-supply.true in omega arith) in
    let small : place < length c.args.package.now = rw c.quantities-quantities.ensures.quantities at c.loop-category-test.true in
    let asked : c.from-asked.result ≡ slice_index c.args.package.now place =
    c.from-asked.ensures ∙ ap (λ (xs : List ℕ). slice_index xs place) c.quantities-quantities.ensures.quantities in
    rw held (supply-found supplies c.args.package.now place c.from-asked.result small asked beyond c.loop-category.invariant)
