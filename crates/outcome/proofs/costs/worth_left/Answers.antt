use Rattle.std.proofs.Common.{◌≡◌, ◌+◌, ◌<◌, ◌≤◌, ◌∙◌, ℕ, List, length, refl, ap, arith}
use Rattle.auction_terms.specs.declared.rules.Category.{Category}
use Rattle.std.specs.Prelude.{sum_by}
use Rattle.auction_terms.specs.Allocations.{quantity_of}
use Rattle.auction_terms.specs.Terms.{Terms}
use Rattle.bid_desk.specs.Closing.{book_of}
use Rattle.outcome.proofs.LeftFacts.{worth_from, one_further, whole_sum}
use Rattle.outcome.proofs.costs.worth_left.Goals as goal

pub loop-category-preserved : goal.loop-category-preserved
loop-category-preserved c =
    let place = c.loop-category.category in
    let categories : List Category = c.args.book.now.rules.categories in
    let taken : ℕ → ℕ = λ category. sum_by (quantity_of (book_of c.args.book.now) category) c.args.choices.now in
    let listed : c.categories-category-end.result.now ≡ categories =
    c.categories-category-end.ensures.value ∙ ap (λ (t : Terms). t.categories) c.rules.ensures.rules in
    let within : place < length categories = omega (arith, c.loop-category-test.true, ap length listed) in
    let so_far = c.loop-category.invariant in
    let one = c.worth_left_of-sum.ensures in
    record {
      sum_is = one_further taken place (place + 1) categories c.loop-category.sum c.worth_left_of-sum.result (worth_from taken 0 categories)
          within refl so_far.sum_is one.worth;
      small = omega (arith, so_far.small, one.small);
    }

pub returns-clause-worth : goal.returns-clause-worth
returns-clause-worth c =
    let categories : List Category = c.args.book.now.rules.categories in
    let taken : ℕ → ℕ = λ category. sum_by (quantity_of (book_of c.args.book.now) category) c.args.choices.now in
    let listed : c.categories-category-end.result.now ≡ categories =
    c.categories-category-end.ensures.value ∙ ap (λ (t : Terms). t.categories) c.rules.ensures.rules in
    let ended : length categories ≤ c.loop-category.category = omega (arith, c.loop-category-test.false, ap length listed) in
    whole_sum taken c.loop-category.category categories c.loop-category.sum ended c.loop-category.invariant.sum_is
