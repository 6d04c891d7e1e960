use Rattle.std.proofs.Common.{◌≡◌, ◌≢◌, ◌*◌, ◌/◌, ◌%◌, ◌^◌, ◌-◌, ◌<◌, ⊎_elim, ℕ, List, length, length-set, slice_index, slice_set, arith, ap, ◌∙◌}
use Rattle.std.specs.Int.{bit_at, bit_not, w64}
use Rattle.std.proofs.lemmas.Bool.{cases_eq}
use Rattle.std.proofs.lemmas.List.{get_or-replicate, get_or-set_other, get_or-set_same}
use Rattle.std.proofs.lemmas.Nat.{one_shl}
use Rattle.std.proofs.lemmas.Nat.Bits.{bit_at-pow_other, bit_at_not, bit_at_ones}
use Rattle.presolve.proofs.search.leave_others.Goals as goal

pub returns-clause-others : goal.returns-clause-others
returns-clause-others c = λ i inside other.
    let left = c.fill.new.self in
    let at = c.args.place / 64 in
    let own = c.args.place % 64 in
    let bit : ℕ = 1 * 2 ^ own % 2 ^ 64 in
    let word : ℕ = bit_not w64 bit in
    let same : length left ≡ length c.args.left.now = c.fill.ensures.len in
    let within : at < length left = (let some = c.requires in omega arith) in
    ⊎_elim
    (λ (here : i / 64 ≡ at).
    let none : bit_at bit (i % 64) ≡ 0 =
    ap (λ (n : ℕ). bit_at n (i % 64)) (one_shl own 64 (omega arith)) ∙ bit_at-pow_other own (i % 64) (λ e. other (omega arith)) in
    ap (λ (n : ℕ). bit_at n (i % 64)) (ap (λ (n : ℕ). slice_index (slice_set left at word) n) here ∙ get_or-set_same left at word 0 within)
    ∙ bit_at_not w64 bit (i % 64) (omega arith) (omega arith) ∙ ap (λ (n : ℕ). 1 - n) none)
    (λ (apart : i / 64 ≢ at).
    let full : slice_index left (i / 64) ≡ 2 ^ 64 - 1 =
    ap (λ (xs : List ℕ). slice_index xs (i / 64)) (c.fill.ensures.after (λ y equal. equal))
    ∙ get_or-replicate _ (i / 64) (2 ^ 64 - 1) 0 (let long = length-set left at word in omega arith) in
    ap (λ (n : ℕ). bit_at n (i % 64)) (get_or-set_other left at (i / 64) word 0 apart ∙ full)
    ∙ bit_at_ones 64 (i % 64) (omega arith))
    (cases_eq (i / 64) at)
