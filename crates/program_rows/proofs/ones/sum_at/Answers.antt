use Rattle.std.proofs.Common.{◌≡◌, ◌+ℤ◌, ◌<◌, length, slice_index_or, rules}
use Rattle.std.proofs.lemmas.Int.{to_z-of_z}
use mir.Syntax.{w128}
use mir.Val.{SFits, to_z, of_z}
use Rattle.program_rows.specs.Points.{coefficient_at}
use Rattle.program_rows.proofs.OneFacts.{at-step, place-within}
use Rattle.program_rows.proofs.SumFacts.{number_there, near_low, near_high}
use Rattle.program_rows.proofs.ones.sum_at.Goals as goal

pub add_coefficient-sum-requires-clause-within : goal.add_coefficient-sum-requires-clause-within
add_coefficient-sum-requires-clause-within c =
    place-within (λ i. i < length c.args.columns.now) c.args.places.now c.loop-place.place-index c.loop-place-test.true c.requires.within

pub loop-place-preserved : goal.loop-place-preserved
loop-place-preserved c =
    let fits : SFits w128 c.add_coefficient-sum.result = search rules in
    let same : to_z w128 (of_z w128 c.add_coefficient-sum.result) ≡ c.add_coefficient-sum.result = to_z-of_z w128 c.add_coefficient-sum.result fits in
    let sum = to_z w128 c.loop-place.sum-bits in
    let inside = place-within (λ i. i < length c.args.columns.now) c.args.places.now c.loop-place.place-index c.loop-place-test.true c.requires.within in
    let there = number_there (coefficient_at c.args.row) c.args.columns.now (slice_index_or c.args.places.now c.loop-place.place-index 0) inside in
    let parsed = c.add_coefficient-sum.ensures in
    let next : c.add_coefficient-sum.result ≡ sum +ℤ there.0 = parsed.added there.0 there.1 in
    rw same (
      near_low sum c.add_coefficient-sum.result c.loop-place.place-index c.loop-place.invariant.0 parsed.low,
      near_high sum c.add_coefficient-sum.result c.loop-place.place-index c.loop-place.invariant.1 parsed.high,
      at-step (coefficient_at c.args.row) c.args.columns.now c.args.places.now c.loop-place.place-index there.0 sum
          c.add_coefficient-sum.result _ c.loop-place-test.true there.1 next c.loop-place.invariant.2,
    )
