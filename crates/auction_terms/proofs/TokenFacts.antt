-- Digits one after the other, and tokens without an exponent.
use Rattle.std.proofs.Common.{◌≡◌, ℕ, ◌+◌, ◌*◌, sym, Bool, true, false, not, ◌||◌, ◌&&◌, List, [], ◌∷◌, ◌++◌, length, drop, refl, ap, ◌∙◌, arith}
use Rattle.std.specs.Prelude.{nat_lt, if◌then◌else◌, slice_index, ◌==◌}
use Rattle.std.specs.List.{list_any, before_first, after_first, position_or_len, list_all}
use Rattle.std.specs.Str.Parse.{digits_value_after}
use Rattle.std.specs.Char.{digit_value, is_ascii_digit}
use Rattle.std.proofs.lemmas.Bool.{and_parts, or_parts}
use Rattle.std.proofs.lemmas.List.{drop_all, take_all}
use Rattle.auction_terms.specs.Decimals.{is_exponent_mark, without_sign, exponent_digits, is_minus}

pub after-append : (n : ℕ) (front back : List ℕ) → digits_value_after 10 n (front ++ back) ≡ digits_value_after 10 (digits_value_after 10 n front) back
after-append n [] back = refl
after-append n (b ∷ front) back = after-append (n * 10 + digit_value b) front back

-- if no byte passes, all come before the first that does, and none after it
nowhere : (p : ℕ → Bool) (bs : List ℕ) → list_any p bs ≡ false → position_or_len p bs ≡ length bs
nowhere p [] h = refl
nowhere p (b ∷ bs) h = let parts = or_parts (p b) (list_any p bs) h in rw (parts.0, nowhere p bs parts.1) (omega arith)

pub all-before : (p : ℕ → Bool) (bs : List ℕ) → list_any p bs ≡ false → before_first p bs ≡ bs
all-before p bs h = take_all (position_or_len p bs) bs (omega (arith, nowhere p bs h))

pub none-after : (p : ℕ → Bool) (bs : List ℕ) → list_any p bs ≡ false → after_first p bs ≡ []
none-after p bs h = drop_all (position_or_len p bs + 1) bs (omega (arith, nowhere p bs h))

none-dropped : (p : ℕ → Bool) (b : Bool) (bs : List ℕ) → list_any p bs ≡ false → list_any p (drop (if b then 1 else 0) bs) ≡ false
none-dropped p b [] h = elim b as (λ c. list_any p (drop (if c then 1 else 0) []) ≡ false) [ true ↦ refl | false ↦ refl ]
none-dropped p true (x ∷ bs) h = (or_parts (p x) (list_any p bs) h).1
none-dropped p false (x ∷ bs) h = h

-- the exponent of a token of the right form is made of digits
pub exponent-digits : (token digits : List ℕ) (marked : Bool) → digits ≡ exponent_digits token → marked ≡ list_any is_exponent_mark token
    → (not marked || (nat_lt 0 (length digits) && list_all is_ascii_digit digits)) ≡ true → list_all is_ascii_digit digits ≡ true
exponent-digits token digits true e m h = (and_parts (nat_lt 0 (length digits)) (list_all is_ascii_digit digits) h).1
exponent-digits token digits false e m h =
    let none = none-dropped is_exponent_mark (is_minus token || (slice_index token 0 == 43)) token (sym m) in
    ap (list_all is_ascii_digit) (e ∙ ap without_sign (none-after is_exponent_mark (without_sign token) none))
