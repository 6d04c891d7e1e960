use Rattle.std.proofs.Common.{◌≡◌, ◌<◌, ◌≤◌, ◌++◌, ◌/◌, ◌%◌, ◌*◌, ◌^◌, ◌-◌, ⊎_elim, ℕ, List, drop, length, slice_index, slice_set, arith, ap, ◌∙◌}
use Rattle.std.specs.Int.{bit_at}
use Rattle.std.proofs.lemmas.Bool.{cases_lt}
use Rattle.std.proofs.lemmas.List.{get_or-replicate, get_or-set_other, get_or-set_same, get_or_append_left, length-append, length-drop, length-take}
use Rattle.std.proofs.lemmas.Nat.{one_shl}
use Rattle.std.proofs.lemmas.Nat.Bits.{bit_at_ones}
use Rattle.presolve.proofs.search.leave_before.Goals as goal

pub returns-clause-before : goal.returns-clause-before
returns-clause-before c = λ i before.
    let place = c.args.place in
    let at = place / 64 in
    let own = place % 64 in
    let front = c.fill.new.self in
    let back : List ℕ = drop at c.args.left.now in
    let left = front ++ back in
    let low : 1 * 2 ^ own % 2 ^ 64 ≡ 2 ^ own = one_shl own 64 (omega arith) in
    let mask : ℕ = 1 * 2 ^ own % 2 ^ 64 - 1 in
    let long : length front ≡ at = (let taken = length-take at c.args.left.now in omega (arith, c.fill.ensures.len, c.requires)) in
    ⊎_elim
    (λ (earlier : i / 64 < at).
    let full : slice_index left (i / 64) ≡ 2 ^ 64 - 1 =
    get_or_append_left front back 0 (i / 64) (omega arith)
    ∙ ap (λ (xs : List ℕ). slice_index xs (i / 64)) (c.fill.ensures.after (λ y same. same))
    ∙ get_or-replicate _ (i / 64) (2 ^ 64 - 1) 0 (omega (arith, c.fill.ensures.len)) in
    ap (λ (n : ℕ). bit_at n (i % 64)) (get_or-set_other left at (i / 64) mask 0 (omega arith) ∙ full) ∙ bit_at_ones 64 (i % 64) (omega arith))
    (λ (here : at ≤ i / 64).
    let same : i / 64 ≡ at = omega arith in
    let within : at < length left = omega (arith, length-append front back, length-drop at c.args.left.now, c.requires) in
    ap (λ (n : ℕ). bit_at n (i % 64)) (ap (λ (n : ℕ). slice_index (slice_set left at mask) n) same ∙ get_or-set_same left at mask 0 within ∙
    ap (λ (n : ℕ). n - 1) low)
    ∙ bit_at_ones own (i % 64) (omega arith))
    (cases_lt (i / 64) at)
