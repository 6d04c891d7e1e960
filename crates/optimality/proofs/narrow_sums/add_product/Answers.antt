use Rattle.std.proofs.Common.{◌≡◌, ◌∙◌, ◌<◌, ap, arith, get_or, length, pos, refl, rules, subst, sym, ℤ, ◌+ℤ◌}
use Rattle.std.specs.Prelude.{◌*ℤ◌, slice_set}
use Rattle.std.proofs.lemmas.Int.{to_z-of_z}
use mir.Syntax.{w64, w128}
use mir.Val.{SFits}
use Rattle.optimality.specs.Adding.{AreGivenMore, at_place, number_at}
use Rattle.optimality.proofs.PlaceFacts.{more-set}
use Rattle.optimality.proofs.narrow_sums.add_product.Goals as goal

pub returns : goal.returns
returns c =
    let before = c.args.sums.now in
    let place = c.args.place in
    let fits_factor : SFits w64 c.args.factor = c.ranges.factor in
    let fits_number : SFits w64 c.args.number = c.ranges.number in
    let fits : SFits w64 c.in_ok-next.next = search rules in
    let fits_sum : SFits w128 c.in_ok-sum.sum = search rules in
    let fits_from : SFits w128 c.from.result = search rules in
    let fits_before : SFits w64 (get_or before place (pos 0)) = search rules in
    let from : c.from.result ≡ number_at before place = simp to_z-of_z at c.from.ensures in
    let sum = simp to_z-of_z at c.in_ok-sum.ensures in
    let narrow = simp to_z-of_z at c.in_ok-next.ensures in
    let within : place < length before = omega (arith, c.if-place-sums.false) in
    let product = c.args.factor *ℤ c.args.number in
    let is : c.in_ok-next.next ≡ number_at before place +ℤ product = narrow ∙ sum ∙ ap (λ (n : ℤ). n +ℤ product) from in
    let more = more-set before before place product (λ q. refl) within in
    simp to_z-of_z (subst (λ (n : ℤ). AreGivenMore (at_place place product) before (slice_set before place n)) (sym is) more)
