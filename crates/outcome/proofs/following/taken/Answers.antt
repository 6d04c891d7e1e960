use Rattle.std.proofs.Common.{◌≡◌, ◌<◌, ◌∙◌, ◌++◌, ℕ, List, [], ◌∷◌, length, map, sym, ap, subst, arith, rules}
use Rattle.std.specs.Prelude.{sum_by}
use Rattle.std.specs.List.{range_with_len}
use Rattle.std.proofs.lemmas.List.{length-map}
use Rattle.std.proofs.lemmas.List.FromFn.{length-map-range_with_len, map-range_with_len_more}
use Rattle.auction_terms.specs.Allocations.{loads, quantity_of}
use Rattle.auction_terms.specs.Packages.{IsPackage, Lots}
use Rattle.auction_terms.specs.Terms.{Terms, lots_in}
use Rattle.auction_terms.specs.declared.rules.Category.{Category}
use Rattle.auction_terms.proofs.AllocationFacts.{feasible_at, loads_length}
use Rattle.bid_desk.specs.Closing.{book_of}
use Rattle.outcome.proofs.QuantityFacts.{small-at, small-fits, small-package}
use Rattle.outcome.proofs.following.taken.Goals as goal

counted : (categories others : List Category) → others ≡ categories → length others ≡ length (map (λ (c : Category). c.supply) categories)
counted categories others e = ap length e ∙ sym (length-map categories (λ (c : Category). c.supply))

pub overflow_cast-lots_taken : goal.overflow_cast-lots_taken
overflow_cast-lots_taken c =
    let book = c.args.book.now in
    let lots : Lots = lots_in book.rules in
    let place = c.loop-category.category in
    let count = counted book.rules.categories c.categories-category-end.result.now
    (c.categories-category-end.ensures.value ∙ ap (λ (t : Terms). t.categories) c.rules.ensures.rules) in
    let within : place < length lots.supply = omega (arith, c.loop-category-test.true) in
    let most = feasible_at lots (book_of book) _ c.args.choices.now c.requires place within in
    let small = small-at lots.supply place c.rules.ensures.lots.supplies in
    omega (arith, c.lots_taken.ensures.load)

pub push-requires : goal.push-requires
push-requires c =
    let few = c.categories-category-end.ensures.terms.limits.category_count in
    let same = ap (λ (t : Terms). length t.categories) c.rules.ensures.rules in
    let size = ap length c.categories-category-end.ensures.value in
    let so_far = ap length c.loop-category.invariant in
    let count = length-map-range_with_len (λ category. sum_by (quantity_of (book_of c.args.book.now) category) c.args.choices.now) 0 c.loop-category.category in
    (search rules, omega (arith, c.loop-category-test.true))

pub loop-category-preserved : goal.loop-category-preserved
loop-category-preserved c =
    let f = λ (category : ℕ). sum_by (quantity_of (book_of c.args.book.now) category) c.args.choices.now in
    c.push.ensures.items
    ∙ ap (λ (xs : List ℕ). xs ++ c.lots_taken.result ∷ []) c.loop-category.invariant
    ∙ ap (λ (n : ℕ). map f (range_with_len 0 c.loop-category.category) ++ n ∷ []) c.lots_taken.ensures.load
    ∙ sym (map-range_with_len_more f 0 c.loop-category.category c.loop-category.category (omega arith))

pub of-requires : goal.of-requires
of-requires c =
    let book = c.args.book.now in
    let lots : Lots = lots_in book.rules in
    let count = counted book.rules.categories c.categories-category-end.result.now
    (c.categories-category-end.ensures.value ∙ ap (λ (t : Terms). t.categories) c.rules.ensures.rules) in
    let ended : c.loop-category.category ≡ length lots.supply = omega (arith, c.loop-category-test.false, c.loop-category.auto.category-end) in
    let f = λ (category : ℕ). sum_by (quantity_of (book_of book) category) c.args.choices.now in
    let whole : c.loop-category.lots.items ≡ loads lots (book_of book) c.args.choices.now =
    c.loop-category.invariant ∙ ap (λ (n : ℕ). map f (range_with_len 0 n)) ended in
    let size = loads_length lots (book_of book) c.args.choices.now in
    let few = c.rules.ensures.lots.categories in
    let some = c.categories-category-end.ensures.terms.some_category in
    let same = ap (λ (t : Terms). length t.categories) c.rules.ensures.rules in
    let listed = ap length c.categories-category-end.ensures.value in
    let is : IsPackage (loads lots (book_of book) c.args.choices.now) = record {
      some = omega arith;
      few = omega arith;
      each = small-package (loads lots (book_of book) c.args.choices.now)
          (small-fits lots (loads lots (book_of book) c.args.choices.now) c.rules.ensures.lots.supplies c.requires.fit);
    } in
    subst IsPackage (sym whole) is
