use Rattle.std.proofs.Common.{◌<◌, arith, get_or, length, pos, refl, rules, subst, sym, ℤ}
use Rattle.std.specs.Prelude.{slice_set}
use Rattle.std.proofs.lemmas.Int.{to_z-of_z}
use mir.Syntax.{w64}
use mir.Val.{SFits}
use Rattle.optimality.specs.Adding.{AreGivenMore, at_place}
use Rattle.optimality.proofs.PlaceFacts.{more-set}
use Rattle.optimality.proofs.narrow_sums.add_at.Goals as goal

pub returns : goal.returns
returns c =
    let before = c.args.sums.now in
    let place = c.args.place in
    let fits : SFits w64 c.in_ok-sum.sum = search rules in
    let fits_number : SFits w64 c.args.number = c.ranges.number in
    let fits_before : SFits w64 (get_or before place (pos 0)) = search rules in
    let sum = simp to_z-of_z at c.in_ok-sum.ensures in
    let within : place < length before = omega (arith, c.if-place-sums.false) in
    let more = more-set before before place c.args.number (λ q. refl) within in
    simp to_z-of_z (subst (λ (n : ℤ). AreGivenMore (at_place place c.args.number) before (slice_set before place n)) (sym sum.1) more)
