use Rattle.std.proofs.Common.{◌≡◌, ◌+◌, ◌^◌, ◌≤◌, ◌<◌, ap, arith, get_or, length, pos, refl, rules, subst, ℤ}
use Rattle.std.specs.Prelude.{unsigned_abs}
use Rattle.std.proofs.lemmas.Int.{to_z-of_z}
use mir.Syntax.{w64, w128}
use mir.Val.{SFits}
use Rattle.optimality.specs.Adding.{AreGivenMore, at_place, number_at}
use Rattle.optimality.proofs.PlaceFacts.{terms-step}
use Rattle.optimality.proofs.PlaceSizeFacts.{more-within}
use Rattle.optimality.proofs.ProductBoundFacts.{abs-within}
use Rattle.optimality.proofs.StopFacts.{too-large-passed}
use Rattle.optimality.proofs.sums.add_terms.Goals as goal

pub loop-place-init : goal.loop-place-init
loop-place-init c = (λ q. refl, λ q. let none : unsigned_abs (number_at c.args.sums.now.numbers.items q) ≡ 0 = ap unsigned_abs (c.requires q) in omega arith)

pub loop-place-preserved : goal.loop-place-preserved
loop-place-preserved c =
    let t = get_or c.args.terms.now c.loop-place.place-index (0, pos 0) in
    let fits : SFits w128 c.from.result = search rules in
    let fits_number : SFits w64 (get_or c.args.terms.now c.loop-place.place-index (0, pos 0)).1 = search rules in
    let number = simp to_z-of_z at c.from.ensures in
    let added = simp to_z-of_z at c.in_ok-add.ensures.value in
    let more : AreGivenMore (at_place t.0 t.1) c.loop-place.sums.numbers.items c.add.new.self.numbers.items =
    subst (λ (n : ℤ). AreGivenMore (at_place t.0 n) c.loop-place.sums.numbers.items c.add.new.self.numbers.items) number added in (
      terms-step c.args.terms.now c.loop-place.place-index (0, pos 0) c.args.sums.now.numbers.items c.loop-place.sums.numbers.items
          c.add.new.self.numbers.items c.loop-place-test.true more c.loop-place.invariant.0,
      λ q. let within = more-within c.loop-place.sums.numbers.items c.add.new.self.numbers.items t more q in let small =
          abs-within t.1 fits_number in let before = c.loop-place.invariant.1 q in omega arith,
    )

pub returns-in_err-add-clause-too_large : goal.returns-in_err-add-clause-too_large
returns-in_err-add-clause-too_large c =
    let t = get_or c.args.terms.now c.loop-place.place-index (0, pos 0) in
    let fits : SFits w128 c.from.result = search rules in
    let fits_number : SFits w64 (get_or c.args.terms.now c.loop-place.place-index (0, pos 0)).1 = search rules in
    let number = simp to_z-of_z at c.from.ensures in
    let before = c.loop-place.invariant.1 t.0 in
    let small = abs-within t.1 fits_number in
    let room : length c.args.terms.now < 2 ^ 64 = search rules in
    let next : c.loop-place.place-index < length c.args.terms.now = c.loop-place-test.true in
    too-large-passed (Unit {0}) c.from_residual.result c.in_err-add.field-0.0 c.from_residual.ensures.1 c.in_err-add.ensures.too_large
    (λ large. let reached = subst (λ (n : ℤ). 2 ^ 127 ≤ unsigned_abs (number_at c.loop-place.sums.numbers.items t.0) + unsigned_abs n) number
    (simp to_z-of_z at large) in absurd (omega arith))
