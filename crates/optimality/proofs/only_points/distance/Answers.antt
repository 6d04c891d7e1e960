use Rattle.std.proofs.Common.{◌≡◌, ◌∙◌, ◌++◌, ◌∷◌, [], true, false, append_assoc, add-one, sym, rules}
use Rattle.optimality.specs.OnlyPoints.{is_zero_or_one}
use Rattle.optimality.proofs.OnlyFacts.{distance-at}
use Rattle.optimality.proofs.only_points.distance.Goals as goal
use Rattle.optimality.proofs.only_points.distance.Goals.{then-is_zero_or_one+in_ok-push, else-is_zero_or_one}

pub loop-column-preserved : goal.loop-column-preserved
loop-column-preserved c =
    let i = c.loop-column.column in
    let named = distance-at i i c.args.program.now.columns c.args.values.now c.bounds.result c.value-value.result c.bounds.ensures
    c.value-value.ensures in
    elim c.if-is_zero_or_one.branch [
      | then-is_zero_or_one+in_ok-push w ↦
          let free : is_zero_or_one c.bounds.result ≡ true = sym c.is_zero_or_one.ensures ∙ w.if-is_zero_or_one.true in
          let pushed : w.push.new.self.items ≡ c.loop-column.form.items ++ (i, w.number_of.result) ∷ [] = search rules in
          let all = rw (named, free) at c.loop-column.invariant in
          rw (w.form-is, add-one, pushed, append_assoc, w.number_of.ensures) all
      | else-is_zero_or_one w ↦
          let fixed : is_zero_or_one c.bounds.result ≡ false = sym c.is_zero_or_one.ensures ∙ w.if-is_zero_or_one.false in
          let all = rw (named, fixed) at c.loop-column.invariant in
          rw (w.form-is, add-one) all
    ]
