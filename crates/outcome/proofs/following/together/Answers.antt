use Rattle.std.proofs.Common.{◌≡◌, ◌<◌, ◌≤◌, ◌∙◌, ◌++◌, ℕ, List, [], ◌∷◌, Bool, false, length, take, get_or, sym, ap, ap₂, subst, arith, le-leb}
use Rattle.std.specs.Prelude.{nat_le}
use Rattle.std.proofs.lemmas.Bool.{and_from}
use Rattle.std.proofs.lemmas.Bool.Decides.{nat_tests}
use Rattle.std.proofs.lemmas.List.{take_more, take_all}
use Rattle.std.proofs.lemmas.List.Folds.{list_all_at, list_all_more}
use Rattle.auction_terms.specs.declared.limits.TheConstants.{GREATEST_QUANTITY}
use Rattle.auction_terms.specs.Packages.{IsPackage}
use Rattle.outcome.specs.inside.Following.{both_packages}
use Rattle.outcome.proofs.QuantityFacts.{are_small, both-at, both-length, package-both}
use Rattle.outcome.proofs.following.together.Goals as goal

abbrev is_small : ℕ → Bool
is_small n = nat_le n GREATEST_QUANTITY

too_large : (n : ℕ) → GREATEST_QUANTITY < n → is_small n ≡ false
too_large n l = grind (arith, nat_tests)

pub returns-then-from-gt-GREATEST_QUANTITY : goal.returns-then-from-gt-GREATEST_QUANTITY
returns-then-from-gt-GREATEST_QUANTITY c =
    let p = c.quantities-theirs.result.now in
    let q = c.quantities-ours.result.now in
    let at = c.loop-place.place in
    let same : length p ≡ length q =
    omega (arith, c.requires, ap length c.quantities-theirs.ensures.quantities, ap length c.quantities-ours.ensures.quantities) in
    let within : at < length p = c.loop-place-test.true in
    let size = both-length p q same in
    let here = both-at p q at within same in
    let large : GREATEST_QUANTITY < get_or (both_packages p q) at 0 = omega (arith, c.if-from-gt-GREATEST_QUANTITY.true, c.from.ensures) in
    ap₂ (λ (x y : List ℕ). are_small (both_packages x y)) (sym c.quantities-theirs.ensures.quantities) (sym c.quantities-ours.ensures.quantities)
    ∙ list_all_at is_small (both_packages p q) at 0 (omega arith) (too_large (get_or (both_packages p q) at 0) large)

pub loop-place-preserved : goal.loop-place-preserved
loop-place-preserved c =
    let p = c.quantities-theirs.result.now in
    let q = c.quantities-ours.result.now in
    let at = c.loop-place.place in
    let same : length p ≡ length q =
    omega (arith, c.requires, ap length c.quantities-theirs.ensures.quantities, ap length c.quantities-ours.ensures.quantities) in
    let within : at < length p = c.loop-place-test.true in
    let size = both-length p q same in
    let here = both-at p q at within same in
    let low : get_or (both_packages p q) at 0 ≤ GREATEST_QUANTITY = omega (arith, c.if-from-gt-GREATEST_QUANTITY.false, c.from.ensures) in
    record {
      lots_are = c.push.ensures.items
          ∙ ap₂ (λ (xs : List ℕ) (n : ℕ). xs ++ n ∷ []) c.loop-place.invariant.lots_are (sym here)
          ∙ sym (take_more (both_packages p q) at 0 (omega arith));
      small = list_all_more is_small (both_packages p q) at 0 (omega arith)
          ∙ and_from (are_small (take at (both_packages p q))) (is_small (get_or (both_packages p q) at 0)) c.loop-place.invariant.small
          (le-leb (get_or (both_packages p q) at 0) GREATEST_QUANTITY low);
    }

whole : (p q : List ℕ) (n : ℕ) → length p ≡ length q → length p ≤ n → take n (both_packages p q) ≡ both_packages p q
whole p q n same l = let size = both-length p q same in take_all n (both_packages p q) (omega arith)

pub of-requires : goal.of-requires
of-requires c =
    let p = c.quantities-theirs.result.now in
    let q = c.quantities-ours.result.now in
    let same : length p ≡ length q =
    omega (arith, c.requires, ap length c.quantities-theirs.ensures.quantities, ap length c.quantities-ours.ensures.quantities) in
    let all = whole p q c.loop-place.place same c.loop-place-test.false in
    subst IsPackage (sym (c.loop-place.invariant.lots_are ∙ all))
    (package-both p q same (subst IsPackage (sym c.quantities-theirs.ensures.quantities) c.quantities-theirs.ensures.package)
    (ap (λ (xs : List ℕ). are_small xs) (sym all) ∙ c.loop-place.invariant.small))

pub returns : goal.returns
returns c =
    let p = c.quantities-theirs.result.now in
    let q = c.quantities-ours.result.now in
    let same : length p ≡ length q =
    omega (arith, c.requires, ap length c.quantities-theirs.ensures.quantities, ap length c.quantities-ours.ensures.quantities) in
    c.of.ensures ∙ c.loop-place.invariant.lots_are ∙ whole p q c.loop-place.place same c.loop-place-test.false
    ∙ ap₂ (λ (x y : List ℕ). both_packages x y) c.quantities-theirs.ensures.quantities c.quantities-ours.ensures.quantities
