use Rattle.std.proofs.Common.{◌≡◌, ◌<◌, ◌∙◌, List, ℕ, ℤ, Bool, ap, arith, length, nat_eq, rules, subst, sym}
use Rattle.std.specs.List.{AllByRecursion}
use Rattle.std.proofs.lemmas.Int.{to_z-of_z}
use lib.Signed.{le_z}
use mir.Syntax.{w128}
use mir.Val.{SFits, of_z, to_z}
use Rattle.program_rows.specs.Program.{TableColumn}
use Rattle.program_rows.specs.Points.{coefficient_at, meets, sum_at_one}
use Rattle.program_rows.specs.inside.Ones.{ones_from, sum_at}
use Rattle.program_rows.proofs.OneFacts.{ones-within, sum-at-ones}
use Rattle.program_rows.proofs.broken.is_row_met.Goals.{in-Some, in-None}
use Rattle.program_rows.proofs.broken.is_row_met.Goals as goal

-- a sum over the places that are listed
by-places : (f : TableColumn → ℤ) (columns : List TableColumn) (values : List Bool) (items places : List ℕ) (sum : ℤ)
    → length values ≡ length columns → items ≡ ones_from 0 values → places ≡ items → sum ≡ sum_at f columns places → sum ≡ sum_at_one f columns values
by-places f columns values items places sum sized listed same e =
    e ∙ ap (sum_at f columns) (same ∙ listed) ∙ sum-at-ones f columns 0 values (omega arith)

pub sum_at-sum-requires-clause-within : goal.sum_at-sum-requires-clause-within
sum_at-sum-requires-clause-within c =
    let listed : c.in-Some.places.items ≡ ones_from 0 c.args.values.now = rw c.in-Some.is at c.requires.ones in
    subst (λ (places : List ℕ). AllByRecursion (λ i. i < length c.args.columns.now) places) (sym (c.as_slice.ensures.value ∙ listed))
    (ones-within 0 (length c.args.columns.now) c.args.values.now (let sized = c.requires.sized in omega arith))

pub returns-in-AtMost : goal.returns-in-AtMost
returns-in-AtMost c =
    let f = coefficient_at c.args.place in
    let columns = c.args.columns.now in
    let values = c.args.values.now in
    let summed : c.match-ones.sum ≡ sum_at_one f columns values = elim c.match-ones.branch [
      | in-Some w ↦
          let fits : SFits w128 w.sum_at-sum.result = search rules in
          sym c.match-ones.sum-is ∙ w.sum-is ∙ to_z-of_z w128 w.sum_at-sum.result fits ∙ by-places f columns values w.in-Some.places.items w.as_slice.result.now _
          c.requires.sized (rw w.in-Some.is at c.requires.ones) w.as_slice.ensures.value w.sum_at-sum.ensures
      | in-None w ↦
          let fits : SFits w128 w.row_sum-sum.result = search rules in
          sym c.match-ones.sum-is ∙ w.sum-is ∙ to_z-of_z w128 w.row_sum-sum.result fits ∙ w.row_sum-sum.ensures
    ] in
    let met : le_z (to_z w128 c.match-ones.sum-bits) (to_z w128 (of_z w128 c.from.result)) ≡ meets c.args.row.now.kind c.match-ones.sum c.args.row.now.right_side = search rules in
    met ∙ ap (λ sum. meets c.args.row.now.kind sum c.args.row.now.right_side) summed

pub returns-in-AtLeast : goal.returns-in-AtLeast
returns-in-AtLeast c =
    let f = coefficient_at c.args.place in
    let columns = c.args.columns.now in
    let values = c.args.values.now in
    let summed : c.match-ones.sum ≡ sum_at_one f columns values = elim c.match-ones.branch [
      | in-Some w ↦
          let fits : SFits w128 w.sum_at-sum.result = search rules in
          sym c.match-ones.sum-is ∙ w.sum-is ∙ to_z-of_z w128 w.sum_at-sum.result fits ∙ by-places f columns values w.in-Some.places.items w.as_slice.result.now _
          c.requires.sized (rw w.in-Some.is at c.requires.ones) w.as_slice.ensures.value w.sum_at-sum.ensures
      | in-None w ↦
          let fits : SFits w128 w.row_sum-sum.result = search rules in
          sym c.match-ones.sum-is ∙ w.sum-is ∙ to_z-of_z w128 w.row_sum-sum.result fits ∙ w.row_sum-sum.ensures
    ] in
    let met : le_z (to_z w128 (of_z w128 c.from-in-AtLeast.result)) (to_z w128 c.match-ones.sum-bits) ≡ meets c.args.row.now.kind c.match-ones.sum c.args.row.now.right_side = search rules in
    met ∙ ap (λ sum. meets c.args.row.now.kind sum c.args.row.now.right_side) summed

pub returns-in-Equal : goal.returns-in-Equal
returns-in-Equal c =
    let f = coefficient_at c.args.place in
    let columns = c.args.columns.now in
    let values = c.args.values.now in
    let summed : c.match-ones.sum ≡ sum_at_one f columns values = elim c.match-ones.branch [
      | in-Some w ↦
          let fits : SFits w128 w.sum_at-sum.result = search rules in
          sym c.match-ones.sum-is ∙ w.sum-is ∙ to_z-of_z w128 w.sum_at-sum.result fits ∙ by-places f columns values w.in-Some.places.items w.as_slice.result.now _
          c.requires.sized (rw w.in-Some.is at c.requires.ones) w.as_slice.ensures.value w.sum_at-sum.ensures
      | in-None w ↦
          let fits : SFits w128 w.row_sum-sum.result = search rules in
          sym c.match-ones.sum-is ∙ w.sum-is ∙ to_z-of_z w128 w.row_sum-sum.result fits ∙ w.row_sum-sum.ensures
    ] in
    let met : nat_eq c.match-ones.sum-bits (of_z w128 c.from-in-Equal.result) ≡ meets c.args.row.now.kind c.match-ones.sum c.args.row.now.right_side = search rules in
    met ∙ ap (λ sum. meets c.args.row.now.kind sum c.args.row.now.right_side) summed
