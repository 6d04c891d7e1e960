-- Laws of bits: a walk by the lowest bit comes to each that is set.
use Rattle.std.proofs.Common.{◌≡◌, ◌≢◌, ◌⊎◌, ⊎_elim, inl, inr, ◌-◌, ◌/◌, ◌%◌, ◌<◌, ◌≤◌, ◌^◌, ℕ, zero, suc, arith, sym, ap, ◌∙◌}
use Rattle.std.specs.Int.{bit_at, trailing_zeros, w64}
use Rattle.std.specs.Int.Bits.{bit_and}
use Rattle.std.specs.Int.RustNames.{bit_or}
use Rattle.std.proofs.lemmas.Bool.{cases_eq, cases_lt}
use Rattle.std.proofs.lemmas.Nat.Bits.{bit_at-suc, bit_at-trailing_zeros, bit_at_and, bit_at_lowest, bit_at_or, bit_at-lt}

-- above its lowest bits, one less has the same ones
above_odd : (k n : ℕ) → n % 2 ≡ 1 → bit_at n (suc k) ≡ bit_at (n - 1) (suc k)
above_odd k n odd = bit_at-suc n k ∙ ap (λ (m : ℕ). bit_at m k) (let half : n / 2 ≡ (n - 1) / 2 = omega arith in half) ∙ sym (bit_at-suc (n - 1) k)

same_above : (low k n : ℕ) → low < k → bit_at n low ≡ 1 → bit_at n k ≡ bit_at (n - 1) k
same_above low zero n above one = absurd (omega arith)
same_above zero (suc k) n above one = above_odd k n (sym (bit_at_lowest n) ∙ one)
same_above (suc low) (suc k) n above one =
    let rest = same_above low k (n / 2) (omega arith) (sym (bit_at-suc n low) ∙ one) in
    ⊎_elim
    (λ (odd : n % 2 ≡ 1). above_odd k n odd)
    (λ (even : n % 2 ≢ 1). bit_at-suc n k ∙ rest ∙ ap (λ (m : ℕ). bit_at m k) (let half : n / 2 - 1 ≡ (n - 1) / 2 = omega arith in half) ∙
    sym (bit_at-suc (n - 1) k))
    (cases_eq (n % 2) 1)

-- it alone is taken from a number by one less
pub lowest_taken : (n k : ℕ) → n ≢ 0 → n < 2 ^ 64 → bit_at (bit_and n (n - 1)) k ≡ 0 → (k ≡ trailing_zeros w64 n) ⊎ (bit_at n k ≡ 0)
lowest_taken n k some room none =
    let place = trailing_zeros w64 n in
    let lowest = bit_at-trailing_zeros w64 n (omega arith) room in
    ⊎_elim
    (λ (l : k < place). inr (lowest.2 k l))
    (λ (l : place ≤ k). ⊎_elim
    (λ (here : k ≡ place). inl here)
    (λ (apart : k ≢ place). inr (let same = same_above place k n (omega arith) lowest.1 in let both = bit_at_and n (n - 1) k in omega arith))
    (cases_eq k place))
    (cases_lt k place)

-- a bit that one has, both have together
pub first_set : (a b k : ℕ) → bit_at a k ≡ 1 → bit_at (bit_or a b) k ≡ 1
first_set a b k own = (let either = bit_at_or a b k in let low = bit_at-lt b k in omega arith)

pub second_set : (a b k : ℕ) → bit_at b k ≡ 1 → bit_at (bit_or a b) k ≡ 1
second_set a b k own = (let either = bit_at_or a b k in let low = bit_at-lt a k in omega arith)

-- a bit that both have is left
pub both_set : (a b k : ℕ) → bit_at a k ≡ 1 → bit_at b k ≡ 1 → bit_at (bit_and a b) k ≡ 1
both_set a b k own other = (let both = bit_at_and a b k in omega arith)
