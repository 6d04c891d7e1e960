-- Greatest common divisors: what Euclid's algorithm finds is the greatest number that divides both.
use Rattle.std.proofs.Common.{◌≡◌, ℕ, zero, suc, ◌*◌, ◌/◌, ◌%◌, ◌≤◌, Bool, true, false, refl, sym, ◌∙◌, subst, arith}
use Rattle.std.specs.Prelude.{◌==◌, ◌&&◌, if◌then◌else◌}
use Rattle.std.specs.Int.{IsGcd}
use Rattle.std.proofs.Math.Nat.{div-le_of_le-mul, le-div_iff_mul-le, mul-le-mul_right, pos_of_dvd_of_pos}
use Rattle.std.proofs.lemmas.Bool.{and_parts, eq-eqb, eqb-true, false≢true}
use Rattle.std.proofs.lemmas.Nat.Gcd.{dvd_of_mod-eq-zero, le_from_IsGcd, le_of_dvd, mod-eq-zero_of_dvd}
use Prim.Native.Nat.{◌∣◌}
use Rattle.auction_terms.specs.Fractions.{gcd, greatest_up_to}

-- a number that isn't the last one
below_last : (holds : ℕ → Bool) (n g : ℕ) → holds g ≡ true → holds (suc n) ≡ false → g ≤ suc n → g ≤ n
below_last holds n g h e within =
    let other : ¬ (g ≡ suc n) = λ same. false≢true (sym e ∙ subst (λ (k : ℕ). holds k ≡ true) same h) in
    omega (arith, other, within)

greatest_is : (n : ℕ) (holds : ℕ → Bool) (g : ℕ) → holds g ≡ true → 1 ≤ g → g ≤ n → ((d : ℕ) → holds d ≡ true → d ≤ g) → greatest_up_to n holds ≡ g
greatest_is zero holds g h some within most = omega arith
greatest_is (suc n) holds g h some within most = by (holds (suc n)) refl (λ e. greatest_is n holds g h some (below_last holds n g h e within) most)
  where
    by : (b : Bool) → holds (suc n) ≡ b → (holds (suc n) ≡ false → greatest_up_to n holds ≡ g)
        → (if holds (suc n) then suc n else greatest_up_to n holds) ≡ g
    by true e below = let above = most (suc n) e in rw e (omega (arith, above, within))
    by false e below = rw e (below e)

divides : (a b d : ℕ) → ((a % d == 0) && (b % d == 0)) ≡ true → (d ∣ a) × (d ∣ b)
divides a b d h =
    let both = and_parts (a % d == 0) (b % d == 0) h in
    (dvd_of_mod-eq-zero d (eqb-true _ _ both.0), dvd_of_mod-eq-zero d (eqb-true _ _ both.1))

divided : (a b d : ℕ) → d ∣ a → d ∣ b → ((a % d == 0) && (b % d == 0)) ≡ true
divided a b d of_a of_b =
    let one : (a % d == 0) ≡ true = eq-eqb _ _ (mod-eq-zero_of_dvd d of_a) in
    let other : (b % d == 0) ≡ true = eq-eqb _ _ (mod-eq-zero_of_dvd d of_b) in
    rw (one, other) refl

pub gcd_is : (a b g : ℕ) → 1 ≤ b → IsGcd a b g → (1 ≤ g) × (g ≤ b) × (g ≡ gcd a b)
gcd_is a b g some h =
    let positive : 1 ≤ g = pos_of_dvd_of_pos h.1 some in
    let within : g ≤ b = le_of_dvd some h.1 in
    let is = greatest_is b (λ d. (a % d == 0) && (b % d == 0)) g (divided a b g h.0 h.1) positive within
    (λ d e. let parts = divides a b d e in le_from_IsGcd a b g d h positive parts.0 parts.1) in
    (positive, within, sym is)

-- ---- amounts in parts

-- at most an amount, if the fraction is
pub parts-most : (n d p a : ℕ) → 1 ≤ d → n ≤ a * d → n * p / d ≤ a * p
parts-most n d p a some most =
    let wide : n * p ≤ a * d * p = mul-le-mul_right p most in
    let same : a * d * p ≡ d * (a * p) = omega arith in
    div-le_of_le-mul d (subst (λ (k : ℕ). n * p ≤ k) same wide)

-- at least an amount, if the fraction is
pub parts-least : (n d p a : ℕ) → 1 ≤ d → a * d ≤ n → a * p ≤ n * p / d
parts-least n d p a some least =
    let wide : a * d * p ≤ n * p = mul-le-mul_right p least in
    let same : a * d * p ≡ a * p * d = omega arith in
    (le-div_iff_mul-le some).1 (subst (λ (k : ℕ). k ≤ n * p) same wide)
