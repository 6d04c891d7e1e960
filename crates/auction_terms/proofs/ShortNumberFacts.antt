-- Tokens of at most a sign and few digits.
use Rattle.std.proofs.Common.{◌≡◌, ℕ, ◌*◌, ◌/◌, ◌%◌, ◌^◌, ◌<◌, ◌≤◌, Bool, true, false, ◌||◌, List, [], ◌∷◌, length, refl, sym, ap, ◌∙◌, arith, append-nil, Ok}
use Rattle.std.specs.Prelude.{◌==◌, nat_lt, slice_index}
use Rattle.std.specs.List.{list_any, before_first, after_first, list_all}
use Rattle.std.specs.Char.{is_ascii_digit}
use Rattle.std.specs.Str.Parse.{digits_value}
use Rattle.std.proofs.lemmas.Bool.{and_parts, lt-ltb, le-ltb, eq-eqb}
use Rattle.std.proofs.lemmas.Bool.Decides.{nat_tests}
use Rattle.std.proofs.lemmas.Grind.{common_steps}
use Rattle.auction_terms.proofs.TokenFacts.{all-before, none-after}
use Rattle.auction_terms.specs.Decimals.{number, signed, is_exponent_mark, is_minus, without_sign, mantissa, fraction_digits, exponent_text}

no-point : (b : ℕ) → is_ascii_digit b ≡ true → (b == 46) ≡ false
no-point b h = grind (arith, common_steps, nat_tests, h)

no-mark : (b : ℕ) → is_ascii_digit b ≡ true → is_exponent_mark b ≡ false
no-mark b h = grind (arith, common_steps, nat_tests, h)

-- a byte that isn't a digit is at no place
none-any : (p : ℕ → Bool) → ((b : ℕ) → is_ascii_digit b ≡ true → p b ≡ false) → (ds : List ℕ) → list_all is_ascii_digit ds ≡ true → list_any p ds ≡ false
none-any p never [] h = refl
none-any p never (d ∷ ds) h =
    let both = and_parts (is_ascii_digit d) (list_all is_ascii_digit ds) h in
    rw (never d both.0, none-any p never ds both.1) refl

sign-no-mark : (b : ℕ) → ((b == 45) || (b == 43)) ≡ true → is_exponent_mark b ≡ false
sign-no-mark b h = grind (arith, common_steps, nat_tests, h)

none-marked : (token : List ℕ) → list_all is_ascii_digit (without_sign token) ≡ true → list_any is_exponent_mark token ≡ false
none-marked [] h = refl
none-marked (b ∷ token) h = by ((is_minus (b ∷ token) || (slice_index (b ∷ token) 0 == 43))) refl h
  where
    by : (s : Bool) → ((b == 45) || (b == 43)) ≡ s → list_all is_ascii_digit (without_sign (b ∷ token)) ≡ true → list_any is_exponent_mark (b ∷ token) ≡ false
    by true e digits = rw (sign-no-mark b e, none-any is_exponent_mark no-mark token (rw e at digits)) refl
    by false e digits = none-any is_exponent_mark no-mark (b ∷ token) (rw e at digits)

pub short_number_is : (token ds : List ℕ) (value : ℕ) → ds ≡ without_sign token → list_all is_ascii_digit ds ≡ true → 1 ≤ length ds
    → length ds ≤ 18 → value ≡ digits_value 10 ds → value < 10 ^ 18 → number token ≡ Ok (signed (is_minus token) value)
unfolding number
short_number_is token ds value d digits some few is low =
    let here : list_all is_ascii_digit (without_sign token) ≡ true = rw d at digits in
    let unmarked = none-any is_exponent_mark no-mark (without_sign token) here in
    let unpointed = none-any (λ (c : ℕ). c == 46) no-point ds digits in
    let front : mantissa token ≡ ds = all-before is_exponent_mark (without_sign token) unmarked ∙ sym d in
    let whole : before_first (λ (c : ℕ). c == 46) (mantissa token) ≡ ds =
    ap (before_first (λ (c : ℕ). c == 46)) front ∙ all-before (λ (c : ℕ). c == 46) ds unpointed in
    let fraction : fraction_digits token ≡ [] = ap (after_first (λ (c : ℕ). c == 46)) front ∙ none-after (λ (c : ℕ). c == 46) ds unpointed in
    let exponent : exponent_text token ≡ [] = none-after is_exponent_mark (without_sign token) unmarked in
    let filled : nat_lt 0 (length ds) ≡ true = lt-ltb _ _ (omega arith) in
    let short : nat_lt 30 (length ds) ≡ false = le-ltb _ _ (omega arith) in
    let unit : ((digits_value 10 ds * 1) % 1 == 0) ≡ true = eq-eqb _ _ (omega arith) in
    let same : (digits_value 10 ds * 1) / 1 ≡ digits_value 10 ds = omega arith in
    let below : nat_lt (10 ^ 18) (digits_value 10 ds) ≡ false = le-ltb _ _ (omega (arith, is, low)) in
    rw (is, whole, fraction, exponent, none-marked token here, append-nil ds, digits, filled, short, unit, same, below) refl
