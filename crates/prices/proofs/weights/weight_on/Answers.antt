use Rattle.std.proofs.Common.{◌≡◌, ◌<◌, ◌^◌, [], arith, cond, rules}
use Rattle.std.specs.Prelude.{slice_index, slice_index_or}
use Rattle.auction_terms.specs.Groups.{has}
use Rattle.prices.specs.inside.Weighing.{weight_by}
use Rattle.prices.proofs.FewFacts.{weights_preserved}
use Rattle.prices.proofs.weights.weight_on.Goals as goal
use Rattle.prices.proofs.weights.weight_on.Goals.{then-has, else-has}

pub loop-place-preserved : goal.loop-place-preserved
loop-place-preserved c =
    let within = c.loop-place-test.true in
    let groups = c.args.groups.now in
    let weights = c.args.weights.now in
    let bidder = c.args.bidder in
    let place = c.loop-place.place in
    let all = weight_by groups weights bidder in
    let so_far = c.loop-place.invariant in
    elim c.if-has.branch [
      | then-has w ↦
          (let is : w.from-sum.result ≡ cond (has (slice_index_or groups place []) bidder) (slice_index weights place) 0 = search rules in
          let next = weights_preserved groups weights bidder place c.loop-place.sum w.from-sum.result all (omega (arith, within, c.requires))
          within is so_far.sum_is in
          let fits : w.from-sum.result < 2 ^ 64 = search rules in
          let sum = w.sum-is in
          record { sum_is = omega arith; small = omega (arith, so_far.small) })
      | else-has w ↦
          (let is : 0 ≡ cond (has (slice_index_or groups place []) bidder) (slice_index weights place) 0 = search rules in
          let next = weights_preserved groups weights bidder place c.loop-place.sum 0 all (omega (arith, within, c.requires)) within is so_far.sum_is in
          let sum = w.sum-is in
          record { sum_is = omega arith; small = omega (arith, so_far.small) })
    ]
