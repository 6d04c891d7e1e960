use Rattle.std.proofs.Common.{◌≡◌, ◌<◌, ◌∙◌, List, ap, arith, length, rules, slice_set, subst, sym, ℤ, ◌+ℤ◌}
use Rattle.std.specs.Prelude.{◌-ℤ◌}
use Rattle.std.proofs.lemmas.Int.{ints, to_z-of_z}
use mir.Syntax.{w128}
use mir.Val.{SFits}
use Rattle.optimality.specs.Adding.{AreGivenMore, at_place, number_at}
use Rattle.optimality.specs.inside.Adding.{AreListed}
use Rattle.optimality.proofs.PlaceFacts.{more-set, listed-too}
use Rattle.optimality.proofs.sums.Sums.put.Goals as goal

pub invariant_of-self-2 : goal.invariant_of-self-2
invariant_of-self-2 c =
    let fits_before : SFits w128 c.args.before = c.ranges.before in
    let fits_sum : SFits w128 c.args.sum = c.ranges.sum in
    let old = c.args.self.now in
    let grown = c.reach.new.numbers.items in
    let new = simp to_z-of_z at c.in_ok-list_new.ensures.listed in
    let set = simp to_z-of_z at c.set_number.ensures in
    let within : c.args.place < length grown = search rules in
    record {
      listed = subst (λ (ns : List ℤ). AreListed c.list_new.new.places.items ns) (sym set)
          (listed-too old.places.items c.list_new.new.places.items old.numbers.items grown c.args.place c.args.sum
          c.in_ok-list_new.ensures.kept (λ e. new (c.requires ∙ e)) old.listed c.reach.ensures.same within);
    }

whole : (before was sum : ℤ) → before ≡ was → sum ≡ was +ℤ (sum -ℤ before)
whole before was sum e = omega (arith, ints)

pub returns-clause-value : goal.returns-clause-value
returns-clause-value c =
    let fits_sum : SFits w128 c.args.sum = c.ranges.sum in
    let old = c.args.self.now in
    let grown = c.reach.new.numbers.items in
    let set = simp to_z-of_z at c.set_number.ensures in
    let within : c.args.place < length grown = search rules in
    let all = set ∙ ap (λ (n : ℤ). slice_set grown c.args.place n) (whole c.args.before (number_at old.numbers.items c.args.place) c.args.sum c.requires) in
    subst (λ (ns : List ℤ). AreGivenMore (at_place c.args.place (c.args.sum -ℤ c.args.before)) old.numbers.items ns) (sym all)
    (more-set old.numbers.items grown c.args.place (c.args.sum -ℤ c.args.before) c.reach.ensures.same within)
