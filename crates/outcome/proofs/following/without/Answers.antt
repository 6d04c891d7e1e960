use Rattle.std.proofs.Common.{◌≡◌, ◌<◌, ◌≤◌, ◌∙◌, ◌++◌, ℕ, List, [], ◌∷◌, length, take, sym, ap, ap₂, subst, arith}
use Rattle.std.proofs.lemmas.List.{take_more, take_all}
use Rattle.auction_terms.specs.Packages.{IsPackage, left}
use Rattle.outcome.proofs.QuantityFacts.{left-length, left-at, package-left}
use Rattle.outcome.proofs.following.without.Goals as goal

pub loop-place-preserved : goal.loop-place-preserved
loop-place-preserved c =
    let p = c.quantities-all.result.now in
    let q = c.quantities-part.result.now in
    let at = c.loop-place.place in
    let same : length p ≡ length q = omega (arith, c.requires, ap length c.quantities-all.ensures.quantities, ap length c.quantities-part.ensures.quantities) in
    let size = left-length p q in
    let within : at < length p = c.loop-place-test.true in
    let here = left-at p q at within same in
    c.push.ensures.items
    ∙ ap₂ (λ (xs : List ℕ) (n : ℕ). xs ++ n ∷ []) c.loop-place.invariant (c.saturating_sub.ensures ∙ sym here)
    ∙ sym (take_more (left p q) at 0 (omega arith))

whole : (p q : List ℕ) (n : ℕ) → length p ≤ n → take n (left p q) ≡ left p q
whole p q n l = let size = left-length p q in take_all n (left p q) (omega arith)

pub of-requires : goal.of-requires
of-requires c =
    let p = c.quantities-all.result.now in
    let q = c.quantities-part.result.now in
    let all = whole p q c.loop-place.place c.loop-place-test.false in
    subst IsPackage (sym (c.loop-place.invariant ∙ all)) (package-left p q
    (subst IsPackage (sym c.quantities-all.ensures.quantities) c.quantities-all.ensures.package))

pub returns : goal.returns
returns c =
    let p = c.quantities-all.result.now in
    let q = c.quantities-part.result.now in
    c.of.ensures ∙ c.loop-place.invariant ∙ whole p q c.loop-place.place c.loop-place-test.false
    ∙ ap₂ (λ (x y : List ℕ). left x y) c.quantities-all.ensures.quantities c.quantities-part.ensures.quantities
