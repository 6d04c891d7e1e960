-- Number tokens: an optional sign, digits with an optional point, an optional exponent.
use Rattle.std.specs.Prelude.{ℕ, ◌+◌, ◌*◌, ◌/◌, ◌%◌, ◌^◌, Bool, not, ◌||◌, ◌&&◌, nat_lt, List, ◌++◌, length, drop, ◌==◌}
use Rattle.std.specs.Prelude.{if◌then◌else◌, slice_index, ℤ, pos, neg_ℤ, Result, Ok, Err}
use Rattle.std.specs.List.{before_first, after_first, list_all, list_any}
use Rattle.std.specs.Char.{is_ascii_digit}
use Rattle.std.specs.Str.Parse.{digits_value}
use Rattle.auction_terms.specs.declared.decimals.NumberFault.{NumberFault}
use Rattle.auction_terms.specs.declared.decimals.NumberFault.TheVariants.{NumberText, NumberRange, NotWhole}

-- e or E
abbrev pub is_exponent_mark : ℕ → Bool
is_exponent_mark b = (b == 101) || (b == 69)

-- whether a text begins with a minus sign
abbrev pub is_minus : List ℕ → Bool
is_minus token = slice_index token 0 == 45

-- a text without the plus or minus sign that it may begin with
abbrev pub without_sign : List ℕ → List ℕ
without_sign token = drop (if is_minus token || (slice_index token 0 == 43) then 1 else 0) token

-- what comes before the exponent, without the sign
abbrev pub mantissa : List ℕ → List ℕ
mantissa token = before_first is_exponent_mark (without_sign token)

-- what follows its point, 46
abbrev pub fraction_digits : List ℕ → List ℕ
fraction_digits token = after_first (λ b. b == 46) (mantissa token)

-- the exponent with its sign
abbrev pub exponent_text : List ℕ → List ℕ
exponent_text token = after_first is_exponent_mark (without_sign token)

-- the exponent without its sign
abbrev pub exponent_digits : List ℕ → List ℕ
exponent_digits token = without_sign (exponent_text token)

-- the digits before and after the point
abbrev pub digits_of_token : List ℕ → List ℕ
digits_of_token token = before_first (λ b. b == 46) (mantissa token) ++ fraction_digits token

-- whether a text is a number token: it has at least one digit before or after the point, and if it has an exponent mark at least one digit after that
abbrev pub is_number_token : List ℕ → Bool
is_number_token token =
    nat_lt 0 (length (digits_of_token token)) && (list_all is_ascii_digit (digits_of_token token)
    && (not (list_any is_exponent_mark token) || (nat_lt 0 (length (exponent_digits token)) && list_all is_ascii_digit (exponent_digits token))))

-- more than 30 digits, more than 3 in the exponent, or an exponent above 60 or below -60
abbrev pub is_too_long : List ℕ → Bool
is_too_long token =
    nat_lt 30 (length (digits_of_token token)) || (nat_lt 3 (length (exponent_digits token)) || nat_lt 60 (digits_value 10 (exponent_digits token)))

-- The size of the value is scaled_up / scale: the digits, with the exponent and the digits after the point as powers of ten.
abbrev pub scaled_up : List ℕ → ℕ
scaled_up token = digits_value 10 (digits_of_token token) * 10 ^ (if is_minus (exponent_text token) then 0 else digits_value 10 (exponent_digits token))

-- what scaled_up is divided by to get the value: a ten for each digit after the point, and as many more as a negative exponent says
abbrev pub scale : List ℕ → ℕ
scale token = 10 ^ (length (fraction_digits token) + (if is_minus (exponent_text token) then digits_value 10 (exponent_digits token) else 0))

-- the whole number with this absolute value, negative if so stated
abbrev pub signed : Bool → ℕ → ℤ
signed negative n = if negative then neg_ℤ (pos n) else pos n

-- size divided by unit, if that is whole and at most 10^18
abbrev pub whole_of : ℕ → ℕ → Result ℕ NumberFault
whole_of size unit =
    if not (size % unit == 0) then Err NotWhole
    else (if nat_lt (10 ^ 18) (size / unit) then Err NumberRange
    else Ok (size / unit))

-- the whole value of a token, or its first fault
unfoldable pub number : List ℕ → Result ℤ NumberFault
number token =
    if not (is_number_token token) then Err NumberText
    else (if is_too_long token then Err NumberRange
    else elim (whole_of (scaled_up token) (scale token)) [ Ok size ↦ Ok (signed (is_minus token) size) | Err fault ↦ Err fault ])
