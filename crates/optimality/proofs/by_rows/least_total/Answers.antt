use Rattle.std.proofs.Common.{◌≡◌, ◌∙◌, ◌+◌, ◌≤◌, ◌^◌, ap, arith, inl, inr, length, pos, rules, ℕ, ℤ, ◌+ℤ◌}
use Rattle.std.specs.Prelude.{unsigned_abs}
use Rattle.std.proofs.lemmas.Int.{to_z-of_z}
use mir.Syntax.{w128}
use mir.Val.{SFits, to_z}
use Rattle.optimality.specs.inside.Adding.{change_at}
use Rattle.optimality.proofs.ColumnSizeFacts.{by-either, change-below}
use Rattle.optimality.proofs.LeafFacts.{total-step, total-end}
use Rattle.optimality.proofs.PlaceSizeFacts.{below-taken}
use Rattle.optimality.proofs.SizeFacts.{abs-sum}
use Rattle.optimality.proofs.StopFacts.{too-large-passed}
use Rattle.optimality.proofs.by_rows.least_total.Goals as goal

pub loop-column-preserved : goal.loop-column-preserved
loop-column-preserved c =
    let cs = c.args.program.now.columns in
    let t : ℕ × ℤ = (c.in-Some.column, c.in-Some.number) in
    let before = c.loop-column.sums.numbers.items in
    let after = c.take.new.self.numbers.items in
    let total = to_z w128 c.loop-column.total-bits in
    let change = change_at cs (pos c.args.scale) c.in-Some.column c.in-Some.number in
    let fits_alone : SFits w128 c.args.alone = c.ranges.alone in
    let fits_total : SFits w128 c.in_ok-total.total = search rules in
    let fits_number : SFits w128 c.in-Some.number = search rules in
    let fits_change : SFits w128 c.in_ok-change.field-0 = search rules in
    let changed : c.in_ok-change.field-0 ≡ change = simp to_z-of_z at c.in_ok-change.ensures.value in
    let sum = simp to_z-of_z at c.in_ok-total.ensures.value in
    let added : c.in_ok-total.total ≡ total +ℤ change = sum ∙ ap (λ (z : ℤ). total +ℤ z) changed in
    let size : unsigned_abs c.in_ok-total.total ≡ unsigned_abs (total +ℤ change) = ap unsigned_abs added in
    let both = abs-sum total change in
    let less = below-taken (length cs) before after t c.in-Some.ensures.taken in
    let moved = change-below cs (pos c.args.scale) c.in-Some.column c.in-Some.number before after c.in-Some.ensures.taken in
    let held = c.loop-column.invariant.1 in
    let room = c.loop-column.invariant.2 in
    let before_total = simp to_z-of_z at c.loop-column.invariant.0 in (
      simp to_z-of_z (total-step (pos c.args.scale) cs c.in-Some.column c.in-Some.number before after c.args.sums.now.numbers.items total
          c.in_ok-total.total c.args.alone c.in-Some.ensures.taken added before_total),
      omega arith,
      simp to_z-of_z (omega arith),
    )

pub returns-in_err-change-clause-too_large : goal.returns-in_err-change-clause-too_large
returns-in_err-change-clause-too_large c =
    let cs = c.args.program.now.columns in
    let before = c.loop-column.sums.numbers.items in
    let after = c.take.new.self.numbers.items in
    let total = to_z w128 c.loop-column.total-bits in
    let fits_number : SFits w128 c.in-Some.number = search rules in
    too-large-passed ℤ c.from_residual.result c.in_err-change.field-0.0 c.from_residual.ensures.1 c.in_err-change.ensures.too_large
    (λ large. by-either cs c.args.scale c.in-Some.column c.in-Some.number total before after c.args.sums.now.numbers.items
    c.in-Some.ensures.taken c.loop-column.invariant.1 c.loop-column.invariant.2 (inl (simp to_z-of_z at large)))

pub returns-in_err-total-clause-too_large : goal.returns-in_err-total-clause-too_large
returns-in_err-total-clause-too_large c =
    let cs = c.args.program.now.columns in
    let before = c.loop-column.sums.numbers.items in
    let after = c.take.new.self.numbers.items in
    let total = to_z w128 c.loop-column.total-bits in
    let change = change_at cs (pos c.args.scale) c.in-Some.column c.in-Some.number in
    let fits_number : SFits w128 c.in-Some.number = search rules in
    let fits_change : SFits w128 c.in_ok-change.field-0 = search rules in
    let changed : c.in_ok-change.field-0 ≡ change = simp to_z-of_z at c.in_ok-change.ensures.value in
    let size = ap unsigned_abs changed in
    too-large-passed ℤ c.from_residual-in_err-total.result c.in_err-total.field-0.0 c.from_residual-in_err-total.ensures.1 c.in_err-total.ensures.too_large
    (λ large. by-either cs c.args.scale c.in-Some.column c.in-Some.number total before after c.args.sums.now.numbers.items
    c.in-Some.ensures.taken c.loop-column.invariant.1 c.loop-column.invariant.2
    (let reached : 2 ^ 127 ≤ unsigned_abs total + unsigned_abs c.in_ok-change.field-0 = simp to_z-of_z at large in inr (omega arith)))

pub returns-clause-size : goal.returns-clause-size
returns-clause-size c =
    let room = c.loop-column.invariant.2 in
    omega (arith, room)

pub returns-clause-value : goal.returns-clause-value
returns-clause-value c =
    let fits_alone : SFits w128 c.args.alone = c.ranges.alone in
    let before = simp to_z-of_z at c.loop-column.invariant.0 in
    total-end (pos c.args.scale) c.args.program.now.columns c.loop-column.sums.numbers.items c.args.sums.now.numbers.items
    (to_z w128 c.loop-column.total-bits) c.args.alone c.in_default.ensures.taken.0 before
