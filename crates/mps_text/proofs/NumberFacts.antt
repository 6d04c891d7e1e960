-- A printed number is read again by the definition of number tokens.
use Rattle.std.proofs.Common.{◌≡◌, ℕ, suc, ◌+◌, ◌*◌, ◌/◌, ◌%◌, ◌^◌, ◌<◌, ◌≤◌, Bool, true, false, List, [], ◌∷◌, length, refl, ◌∙◌, arith, Ok}
use Rattle.std.specs.Prelude.{◌==◌, slice_index, ℤ, pos, negsuc, nat_lt, decimal}
use Rattle.std.specs.List.{list_any, AllByRecursion, before_first, after_first, position_or_len}
use Rattle.std.specs.Char.{is_ascii_digit}
use Rattle.std.specs.Fmt.{signed_decimal}
use Rattle.std.specs.Str.Parse.{digits_value, AllDigits}
use Rattle.std.proofs.lemmas.List.{take_all, drop_all, append-nil}
use Rattle.std.proofs.lemmas.Bool.{lt-ltb, le-ltb, eq-eqb}
use Rattle.std.proofs.lemmas.Bool.Decides.{nat_tests}
use Rattle.std.proofs.lemmas.Grind.{common_steps}
use Rattle.std.proofs.lemmas.Str.Parse.{digit_from_value}
use Rattle.std.proofs.lemmas.Fmt.{decimal_is_IsNumeral, length-decimal-le}
use Rattle.auction_terms.specs.Decimals.{number, is_exponent_mark, is_minus, without_sign, signed}
use Rattle.auction_terms.proofs.OfferFacts.{all_agree}
pub use Rattle.program_rows.specs.Legal.{IsSmall}
use Rattle.program_rows.proofs.NamedItemFacts.{all_pass}
use Rattle.mps_text.proofs.LineFacts.{Printable, IsField}

abbrev pub Digit : ℕ → Type 0
Digit b = (48 ≤ b) × (b ≤ 57)

abbrev pub Digits : List ℕ → Type 0
Digits ds = AllByRecursion Digit ds

digits_from : (ds : List ℕ) → AllDigits 10 ds → Digits ds
digits_from [] h = tt
digits_from (d ∷ ds) h = let in_range = digit_from_value d h.0 in ((omega arith, omega arith), digits_from ds h.1)

no_mark : (b : ℕ) → Digit b → is_exponent_mark b ≡ false
no_mark b h = grind (arith, common_steps, nat_tests)

no_point : (b : ℕ) → Digit b → (b == 46) ≡ false
no_point b h = grind (arith, common_steps, nat_tests)

is_digit : (b : ℕ) → Digit b → is_ascii_digit b ≡ true
is_digit b h = grind (arith, common_steps, nat_tests)

none-position : (p : ℕ → Bool) (all : (b : ℕ) → Digit b → p b ≡ false) (ds : List ℕ) → Digits ds → position_or_len p ds ≡ length ds
none-position p all [] h = refl
none-position p all (d ∷ ds) h = rw (all d h.0, none-position p all ds h.1) (omega arith)

none-before : (p : ℕ → Bool) (all : (b : ℕ) → Digit b → p b ≡ false) (ds : List ℕ) → Digits ds → before_first p ds ≡ ds
none-before p all ds h = rw (none-position p all ds h) (take_all (length ds) ds (omega arith))

none-after : (p : ℕ → Bool) (all : (b : ℕ) → Digit b → p b ≡ false) (ds : List ℕ) → Digits ds → after_first p ds ≡ []
none-after p all ds h = rw (none-position p all ds h) (drop_all (length ds + 1) ds (omega arith))

no_marks : (ds : List ℕ) → Digits ds → list_any is_exponent_mark ds ≡ false
no_marks [] h = refl
no_marks (d ∷ ds) h = rw (no_mark d h.0, no_marks ds h.1) refl

whole_scale : (n : ℕ) → ((n * 1) % 1 == 0) ≡ true
whole_scale n = eq-eqb _ _ (omega arith)

-- digits, after a minus or not
pub number-digits : (token ds : List ℕ) → without_sign token ≡ ds → list_any is_exponent_mark token ≡ false → Digits ds → 0 < length ds
    → length ds ≤ 30 → digits_value 10 ds ≤ 10 ^ 18
    → number token ≡ Ok (signed (is_minus token) (digits_value 10 ds))
unfolding number
number-digits token ds e marks h some short small =
    let n = digits_value 10 ds in
    let one : n * 1 / 1 ≡ n = omega arith in
    let at_most : nat_lt (10 ^ 18) n ≡ false = le-ltb _ _ small in
    rw (e, marks) (rw (none-before is_exponent_mark no_mark ds h, none-after is_exponent_mark no_mark ds h)
    (rw (none-before (λ (c : ℕ). c == 46) no_point ds h, none-after (λ (c : ℕ). c == 46) no_point ds h)
    (rw (append-nil ds) (rw (
      lt-ltb 0 (length ds) some,
      all_pass is_ascii_digit ds (all_agree Digit (λ b. is_ascii_digit b ≡ true) ds
          is_digit h),
      le-ltb 30 (length ds) short,
    ) (rw (whole_scale n, one, at_most) refl)))))

first_digit : (ds : List ℕ) → Digits ds → 0 < length ds → Digit (slice_index ds 0)
first_digit [] h some = absurd (omega arith)
first_digit (d ∷ ds) h some = h.0

no_sign : (b : ℕ) → Digit b → ((b == 45) ≡ false) × ((b == 43) ≡ false)
no_sign b h = (grind (arith, nat_tests), grind (arith, nat_tests))

unsigned : (ds : List ℕ) → Digits ds → 0 < length ds → (is_minus ds ≡ false) × (without_sign ds ≡ ds)
unsigned ds h some = let first = no_sign (slice_index ds 0) (first_digit ds h some) in (first.0, rw (first.0, first.1) refl)

-- within -10^18 to 10^18
pub number-signed_decimal : (z : ℤ) → IsSmall z → number (signed_decimal z) ≡ Ok z
number-signed_decimal (pos n) small =
    let d = decimal_is_IsNumeral n (omega arith) in
    let ds = digits_from (decimal n) d.0.1 in
    let s = unsigned (decimal n) ds d.0.0 in
    let read = number-digits (decimal n) (decimal n) s.1 (no_marks (decimal n) ds) ds d.0.0
    (length-decimal-le 30 n (omega arith) (omega arith) (omega arith)) (rw d.1 small) in
    read ∙ rw (s.0, d.1) refl
number-signed_decimal (negsuc n) small =
    let d = decimal_is_IsNumeral (suc n) (omega arith) in
    let ds = digits_from (decimal (suc n)) d.0.1 in
    let read = number-digits (45 ∷ decimal (suc n)) (decimal (suc n)) refl (no_marks (decimal (suc n)) ds) ds d.0.0
    (length-decimal-le 30 (suc n) (omega arith) (omega arith) (omega arith)) (rw d.1 (omega arith)) in
    read ∙ rw d.1 refl

pub IsField-decimal : (n : ℕ) → n < 2 ^ 64 → IsField (decimal n)
IsField-decimal n small = let d = decimal_is_IsNumeral n small in
    (d.0.0, all_agree Digit Printable (decimal n) (λ b h. (omega arith, omega arith)) (digits_from (decimal n) d.0.1))

pub IsField-signed_decimal : (z : ℤ) → IsSmall z → IsField (signed_decimal z)
IsField-signed_decimal (pos n) small = IsField-decimal n (omega arith)
IsField-signed_decimal (negsuc n) small = let f = IsField-decimal (suc n) (omega arith) in (omega arith, ((omega arith, omega arith), f.1))
