use Rattle.std.proofs.Common.{◌≤◌, ◌∙◌, ◌^◌, ◌++◌, ℕ, List, [], ◌∷◌, length, map, sym, ap, arith, rules, subst}
use Rattle.std.specs.Prelude.{All, sum_by}
use Rattle.std.specs.List.{range_with_len}
use Rattle.std.proofs.lemmas.List.Elements.{All-push}
use Rattle.std.proofs.lemmas.List.FromFn.{length-map-range_with_len, map-range_with_len_more}
use Rattle.auction_terms.specs.Allocations.{quantity_of}
use Rattle.auction_terms.specs.Terms.{Terms}
use Rattle.bid_desk.specs.Closing.{book_of}
use Rattle.award_objects.proofs.lots.sold_by.Goals as goal

pub push-requires : goal.push-requires
push-requires c =
    let few = c.categories-category-end.ensures.terms.limits.category_count in
    let same = ap (λ (t : Terms). length t.categories) c.rules.ensures.rules in
    let size = ap length c.categories-category-end.ensures.value in
    let so_far = ap length c.loop-category.invariant.sold in
    let count = length-map-range_with_len (λ category. sum_by (quantity_of (book_of c.args.book.now) category) c.args.choices.now) 0 c.loop-category.category in
    (search rules, omega (arith, c.loop-category-test.true))

pub loop-category-preserved : goal.loop-category-preserved
loop-category-preserved c =
    let f = λ (category : ℕ). sum_by (quantity_of (book_of c.args.book.now) category) c.args.choices.now in
    record {
      sold = c.push.ensures.items
          ∙ ap (λ (xs : List ℕ). xs ++ c.lots_taken.result ∷ []) c.loop-category.invariant.sold
          ∙ ap (λ (n : ℕ). map f (range_with_len 0 c.loop-category.category) ++ n ∷ []) c.lots_taken.ensures.load
          ∙ sym (map-range_with_len_more f 0 c.loop-category.category c.loop-category.category (omega arith));
      small = subst (All (λ (lots : ℕ). lots ≤ 2 ^ 80)) (sym c.push.ensures.items)
          (All-push (λ (lots : ℕ). lots ≤ 2 ^ 80) c.loop-category.sold.items c.lots_taken.result c.loop-category.invariant.small (omega (arith, c.lots_taken.ensures.small)));
    }

pub returns-clause-count : goal.returns-clause-count
returns-clause-count c =
    let same = ap (λ (t : Terms). length t.categories) c.rules.ensures.rules in
    let size = ap length c.categories-category-end.ensures.value in
    let so_far = ap length c.loop-category.invariant.sold in
    let count = length-map-range_with_len (λ category. sum_by (quantity_of (book_of c.args.book.now) category) c.args.choices.now) 0 c.loop-category.category in
    omega (arith, c.loop-category-test.false, c.loop-category.auto.category-end)
