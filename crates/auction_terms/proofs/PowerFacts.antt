-- Whole quotients by powers of ten.
use Rattle.std.proofs.Common.{◌≡◌, ◌≢◌, ℕ, zero, suc, ◌+◌, ◌-◌, ◌*◌, ◌/◌, ◌%◌, ◌^◌, ◌<◌, ◌≤◌, true, false, refl, sym, ap, ◌∙◌, arith, Err}
use Rattle.std.specs.Prelude.{◌==◌, nat_lt}
use Rattle.std.proofs.Math.Nat.{pow-le-pow_right, one-le-pow, mul-le-mul_right, mod-eq_of_lt, mod-lt}
use Rattle.std.proofs.lemmas.Nat.{pow-add, div-mul-add, mod-mul-add}
use Rattle.std.proofs.lemmas.Bool.{ne_eqb, eq-eqb, lt-ltb}
use Rattle.auction_terms.specs.declared.decimals.NumberFault.TheVariants.{NumberRange, NotWhole}
use Rattle.auction_terms.specs.Decimals.{whole_of}

pub pow_above : (i j : ℕ) → i ≤ j → 10 ^ i ≤ 10 ^ j
pow_above i j h = pow-le-pow_right {n = 10} (omega arith) h

pub pow_some : (i : ℕ) → 0 < 10 ^ i
pow_some i = omega (arith, one-le-pow i 10 (omega arith))

pub too_low : (digits places : ℕ) → 0 < digits → digits < 10 ^ 30 → 30 ≤ places → Err NotWhole ≡ whole_of digits (10 ^ places)
too_low digits places some small h =
    let below : digits < 10 ^ places = omega (arith, pow_above 30 places h) in
    let rest : (digits % 10 ^ places == 0) ≡ false = rw (mod-eq_of_lt below) (ne_eqb _ _ (λ e. omega arith)) in
    rw rest refl

pub past_limit : (size : ℕ) → 10 ^ 18 < size → Err NumberRange ≡ whole_of size 1
past_limit size h =
    let whole : (size % 1 == 0) ≡ true = eq-eqb _ _ (omega arith) in
    let above : nat_lt (10 ^ 18) (size / 1) ≡ true = lt-ltb _ _ (omega arith) in
    rw (whole, above) refl

same_test : (rest factor : ℕ) → 0 < factor → (rest * factor == 0) ≡ (rest == 0)
same_test zero factor more = rw (eq-eqb (0 * factor) 0 (omega arith)) refl
same_test (suc rest) factor more =
    let some : suc rest * factor ≢ 0 = λ e. omega (arith, mul-le-mul_right {m = 1} {n = suc rest} factor (omega arith)) in
    ne_eqb _ _ some ∙ sym (ne_eqb _ _ (λ e. omega arith))

-- a common factor doesn't matter
pub same_factor : (size unit factor : ℕ) → 0 < unit → 0 < factor → whole_of (size * factor) (unit * factor) ≡ whole_of size unit
same_factor size unit factor some more =
    let rest = size % unit in
    let below : rest < unit = mod-lt size some in
    let less : rest * factor < unit * factor = omega (arith, mul-le-mul_right {m = suc rest} {n = unit} factor (omega arith)) in
    let parts : size ≡ (size / unit) * unit + rest = omega arith in
    let whole : size * factor ≡ (size / unit) * (unit * factor) + rest * factor = omega (arith, ap (λ (n : ℕ). n * factor) parts) in
    let quotient : (size * factor) / (unit * factor) ≡ size / unit = rw whole (div-mul-add (size / unit) (unit * factor) (rest * factor) less) in
    let left : (size * factor) % (unit * factor) ≡ rest * factor = rw whole (mod-mul-add (size / unit) (unit * factor) (rest * factor) less) in
    rw (quotient, left, same_test rest factor more) refl

pub raised_is : (digits up down : ℕ) → down ≤ up → whole_of (digits * 10 ^ up) (10 ^ down) ≡ whole_of (digits * 10 ^ (up - down)) 1
raised_is digits up down h =
    let power : 10 ^ up ≡ 10 ^ (up - down) * 10 ^ down = ap (λ (n : ℕ). 10 ^ n) (omega arith) ∙ pow-add 10 (up - down) down in
    let size : digits * 10 ^ up ≡ (digits * 10 ^ (up - down)) * 10 ^ down = rw power (omega arith) in
    let unit : 10 ^ down ≡ 1 * 10 ^ down = omega arith in
    ap (λ (n : ℕ). whole_of n (10 ^ down)) size ∙ ap (whole_of ((digits * 10 ^ (up - down)) * 10 ^ down)) unit
    ∙ same_factor (digits * 10 ^ (up - down)) 1 (10 ^ down) (omega arith) (pow_some down)

pub lowered_is : (digits up down : ℕ) → up ≤ down → whole_of (digits * 10 ^ up) (10 ^ down) ≡ whole_of digits (10 ^ (down - up))
lowered_is digits up down h =
    let power : 10 ^ down ≡ 10 ^ (down - up) * 10 ^ up = ap (λ (n : ℕ). 10 ^ n) (omega arith) ∙ pow-add 10 (down - up) up in
    ap (whole_of (digits * 10 ^ up)) power ∙ same_factor digits (10 ^ (down - up)) (10 ^ up) (pow_some (down - up)) (pow_some up)
