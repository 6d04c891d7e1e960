-- The sums of an award, category by category.
use Rattle.std.proofs.Common.{◌≡◌, ◌∙◌, ◌+◌, ℕ, List, [], ◌∷◌, ap, arith, length, map, refl}
use Rattle.std.specs.Prelude.{sum_by}
use Rattle.std.specs.List.{zip}
use Rattle.std.proofs.lemmas.List.{length-map}
use Rattle.std.proofs.lemmas.List.Sums.{sum_by-cons}
use Rattle.auction_terms.specs.Allocations.{amount_of, loads}
use Rattle.auction_terms.specs.Packages.{left, size, weighed}
use Rattle.auction_terms.specs.Terms.{lots_in}
use Rattle.auction_terms.specs.declared.rules.Category.{Category}
use Rattle.auction_terms.proofs.AllocationFacts.{loads_length}
use Rattle.award_objects.specs.Objects.{unsold, value_left}
use Rattle.award_objects.specs.Sums.{SumsAddUp}

unsold_lots : (categories : List Category) (sold : List ℕ) → length sold ≡ length categories
    → sum_by unsold (zip categories sold) ≡ size (left (map (λ category. category.supply) categories) sold)
unsold_lots [] sold e = refl
unsold_lots (c ∷ categories) [] e = absurd (omega arith)
unsold_lots (c ∷ categories) (n ∷ sold) e =
    sum_by-cons unsold (c, n) (zip categories sold) ∙ ap (λ (m : ℕ). unsold (c, n) + m) (unsold_lots categories sold (omega arith))

values_left : (categories : List Category) (sold : List ℕ) → length sold ≡ length categories
    → sum_by value_left (zip categories sold) ≡ weighed (map (λ category. category.value) categories) (left (map (λ category. category.supply) categories) sold)
values_left [] sold e = refl
values_left (c ∷ categories) [] e = absurd (omega arith)
values_left (c ∷ categories) (n ∷ sold) e =
    sum_by-cons value_left (c, n) (zip categories sold) ∙ ap (λ (m : ℕ). value_left (c, n) + m) (values_left categories sold (omega arith))

pub sums_add_up : SumsAddUp
sums_add_up t book a =
    let sold = loads (lots_in t) book a in
    let count = loads_length (lots_in t) book a ∙ length-map t.categories (λ (c : Category). c.supply) in
    record {
      lots = unsold_lots t.categories sold count;
      total = ap (λ (n : ℕ). sum_by (amount_of book) a + n) (values_left t.categories sold count);
    }
