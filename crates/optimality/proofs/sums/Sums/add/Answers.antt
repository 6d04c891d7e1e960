use Rattle.std.proofs.Common.{◌≡◌, arith, rules, subst, ℤ}
use Rattle.std.specs.Prelude.{◌-ℤ◌}
use Rattle.std.proofs.lemmas.Int.{ints, to_z-of_z}
use Rattle.std.proofs.lemmas.Result.{on_ok_weaker}
use mir.Syntax.{w128}
use mir.Val.{SFits}
use Rattle.optimality.specs.Adding.{AreGivenMore, at_place}
use Rattle.optimality.proofs.sums.Sums.add.Goals as goal

pub returns-clause-value : goal.returns-clause-value
returns-clause-value c =
    let fits_before : SFits w128 c.number_at-before.result = search rules in
    let fits_sum : SFits w128 c.in_ok-sum.sum = search rules in
    let fits_number : SFits w128 c.args.number = c.ranges.number in
    let sum = simp to_z-of_z at c.in_ok-sum.ensures.value in
    let put = simp to_z-of_z at c.put.ensures.value in
    let more : c.in_ok-sum.sum -ℤ c.number_at-before.result ≡ c.args.number = omega (arith, ints, sum) in
    on_ok_weaker c.put.result (λ given. subst (λ (n : ℤ). AreGivenMore (at_place c.args.place n) c.args.self.now.numbers.items
    c.put.new.self.numbers.items) more given) put
