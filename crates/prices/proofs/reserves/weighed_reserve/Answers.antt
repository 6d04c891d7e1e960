use Rattle.std.proofs.Common.{◌≡◌, ◌<◌, ◌≤◌, ◌+◌, ◌*◌, ◌^◌, ℕ, List, add-one, ap₂, arith, drop, drop-cons, length, map, refl, rules, suc, sym}
use Rattle.std.proofs.Math.Nat.{mul-le-mul}
use Rattle.std.specs.Prelude.{slice_index, slice_index_or}
use Rattle.std.proofs.lemmas.List.{get_or-map, length-map}
use Rattle.auction_terms.specs.Packages.{weighed}
use Rattle.auction_terms.specs.declared.rules.Category.{Category}
use Rattle.auction_terms.proofs.WeighedFacts.{weighed_end}
use Rattle.prices.proofs.reserves.weighed_reserve.Goals as goal

-- the lots of a category, and those after it
weighed_next : (w q : List ℕ) (n : ℕ) → n < length w → n < length q
    → weighed (drop n w) (drop n q) ≡ slice_index w n * slice_index q n + weighed (drop (suc n) w) (drop (suc n) q)
weighed_next w q n l m = rw (drop-cons w n 0 l, drop-cons q n 0 m) refl

pub loop-place-preserved : goal.loop-place-preserved
loop-place-preserved c =
    let categories = c.args.categories.now in
    let quantities = c.args.quantities.now in
    let reserves : List ℕ = map (λ (category : Category). category.reserve) categories in
    let place = c.loop-place.place in
    let x = slice_index_or categories place c.index-categories-place.result in
    let count = length-map categories (λ (category : Category). category.reserve) in
    let test = c.loop-place-test.true in
    let end = c.min-place-end.ensures in
    let within : place < length categories = omega arith in
    let inside : place < length quantities = omega arith in
    let reserve : x.reserve ≡ slice_index reserves place =
    sym (get_or-map (λ (category : Category). category.reserve) categories place c.index-categories-place.result 0 within) in
    let limit : x.reserve ≤ 10 ^ 12 = (c.requires.limits place c.index-categories-place.result within).reserve in
    let lots : c.from.result ≡ slice_index quantities place = c.from.ensures in
    let few : c.from.result < 2 ^ 16 = search rules in
    let most : c.from.result ≤ 2 ^ 16 = omega arith in
    let product : x.reserve * c.from.result ≤ 10 ^ 12 * 2 ^ 16 = mul-le-mul limit most in
    let worth : x.reserve * c.from.result ≡ slice_index reserves place * slice_index quantities place = ap₂ (λ (n k : ℕ). n * k) reserve lots in
    let next = weighed_next reserves quantities place (omega arith) inside in
    let so_far = c.loop-place.invariant.0 in
    let small = c.loop-place.invariant.1 in
    (rw add-one (omega arith), omega arith)

pub returns : goal.returns
returns c =
    let count = length-map c.args.categories.now (λ (category : Category). category.reserve) in
    let at_end = c.min-place-end.ensures in
    let test = c.loop-place-test.false in
    let nothing = weighed_end (map (λ (category : Category). category.reserve) c.args.categories.now) c.args.quantities.now c.loop-place.place (omega arith) in
    let so_far = c.loop-place.invariant.0 in
    omega arith
