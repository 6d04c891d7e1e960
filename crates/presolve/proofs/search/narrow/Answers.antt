use Rattle.std.proofs.Common.{◌≡◌, ◌<◌, ℕ, length, length-set, slice_index, arith, ap, ◌∙◌}
use Rattle.std.specs.Int.{bit_at}
use Rattle.std.specs.Int.Bits.{bit_and}
use Rattle.std.proofs.lemmas.List.{get_or-set_other, get_or_default}
use Rattle.std.proofs.lemmas.Bool.{eqb-true, not-false}
use Rattle.std.proofs.lemmas.Nat.{le_or_l, le_or_r}
use Rattle.presolve.proofs.BitFacts.{both_set}
use Rattle.presolve.proofs.SieveFacts.{set_word}
use Rattle.presolve.proofs.search.narrow.Goals as goal

pub loop-place-preserved : goal.loop-place-preserved
loop-place-preserved c =
    let left = c.loop-place.left in
    let place = c.loop-place.place in
    let before = c.loop-place.invariant in
    let args = c.args in
    let within : place < length left = (let count = before.count in let small = c.loop-place-test.true in omega arith) in
    let word : ℕ = bit_and (slice_index left place) (bit_and (bit_and (bit_and (slice_index args.first.now place)
    (slice_index args.second.now place)) (slice_index args.third.now place)) (slice_index args.fourth.now place)) in
    record {
      count = length-set left place word ∙ before.count;
      kept = λ j k small. set_word
          (λ (j w : ℕ). bit_at (slice_index args.left.now j) k ≡ 1 → bit_at (slice_index args.first.now j) k ≡ 1 → bit_at
          (slice_index args.second.now j) k ≡ 1 → bit_at (slice_index args.third.now j) k ≡ 1
          → bit_at (slice_index args.fourth.now j) k ≡ 1 → bit_at w k ≡ 1)
          left place word within
          (λ j earlier. before.kept j k earlier)
          (λ own first second third fourth.
          let mine = ap (λ (n : ℕ). bit_at n k) (before.later place (omega arith)) ∙ own in
          both_set (slice_index left place) _ k mine (both_set _ _ k (both_set _ _ k (both_set _ _ k first second) third) fourth))
          j small;
      none = λ j small nothing.
          let any = le_or_l c.loop-place.any word in
          let own = le_or_r c.loop-place.any word in
          set_word (λ (j w : ℕ). w ≡ 0) left place word within (λ j earlier. before.none j earlier (omega arith)) (omega arith) j small;
      later = λ j above. get_or-set_other left place j word 0 (omega arith) ∙ before.later j (omega arith);
    }

pub returns-clause-none : goal.returns-clause-none
returns-clause-none c = λ nothing k d inside.
    let left = c.loop-place.left in
    let zero : c.loop-place.any ≡ 0 = eqb-true c.loop-place.any 0 (not-false _ nothing) in
    let end = c.loop-place-test.false in
    let count = c.loop-place.invariant.count in
    get_or_default left k d 0 inside ∙ c.loop-place.invariant.none k (omega arith) zero
