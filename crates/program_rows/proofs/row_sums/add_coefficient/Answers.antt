use Rattle.std.proofs.Common.{◌≡◌, ◌∙◌, ◌+ℤ◌, ap, cond, pos, slice_get, rules, w64}
use Rattle.std.specs.Option.{option_map}
use Rattle.std.proofs.lemmas.Int.{to_z-of_z}
use mir.Syntax.{w128}
use mir.Val.{SFits, to_z, of_z}
use Rattle.program_rows.specs.Points.{coefficient_at}
use Rattle.program_rows.proofs.SumFacts.{added_one, coefficient_there}
use Rattle.program_rows.proofs.row_sums.add_coefficient.Goals as goal

pub returns-then-value-clause-added : goal.returns-then-value-clause-added
returns-then-value-clause-added c =
    let fits : SFits w128 c.add_at_one.result = search rules in
    let fits_number : SFits w64 c.coefficient_of.result = search rules in
    let same : to_z w128 (of_z w128 c.add_at_one.result) ≡ c.add_at_one.result = to_z-of_z w128 c.add_at_one.result fits in
    let number : to_z w64 (of_z w64 c.coefficient_of.result) ≡ c.coefficient_of.result = to_z-of_z w64 c.coefficient_of.result fits_number in
    let before : to_z w128 (of_z w128 c.args.sum) ≡ c.args.sum = to_z-of_z w128 c.args.sum c.ranges.sum in
    let next : c.add_at_one.result ≡ c.args.sum +ℤ cond c.args.value c.coefficient_of.result (pos 0) = c.add_at_one.ensures
    ∙ ap (λ sum. sum +ℤ cond c.args.value (to_z w64 (of_z w64 c.coefficient_of.result)) (pos 0)) before
    ∙ ap (λ n. c.args.sum +ℤ cond c.args.value n (pos 0)) number in
    let there = coefficient_there c.args.row (slice_get c.args.columns.now c.args.column) c.entries.result.now c.coefficient_of.result
    c.entries.ensures c.coefficient_of.ensures in
    let all = added_one c.args.value (option_map (coefficient_at c.args.row) (slice_get c.args.columns.now c.args.column)) c.args.sum
    c.add_at_one.result c.coefficient_of.result c.if-value.true there next c.coefficient_of.type_inv in
    rw same all.0
