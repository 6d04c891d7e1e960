-- The exact parts of a number token.
use Rattle.std.specs.Prelude.{ℕ, ◌+◌, not, List, length, if◌then◌else◌, Result, Ok, Err}
use Rattle.std.specs.Str.Parse.{digits_value}
use Rattle.auction_terms.specs.declared.token.TokenParts.{TokenParts}
use Rattle.auction_terms.specs.declared.token.TokenFault.{TokenFault}
use Rattle.auction_terms.specs.declared.token.TokenFault.TheVariants.{NotToken, TooLong}
use Rattle.auction_terms.specs.Decimals.{digits_of_token, exponent_digits, exponent_text, fraction_digits, is_minus, is_number_token, is_too_long}

-- powers of ten in the value's numerator
abbrev pub places_up : List ℕ → ℕ
places_up token = if is_minus (exponent_text token) then 0 else digits_value 10 (exponent_digits token)

-- powers of ten in its denominator
abbrev pub places_down : List ℕ → ℕ
places_down token = length (fraction_digits token) + (if is_minus (exponent_text token) then digits_value 10 (exponent_digits token) else 0)

-- the exact parts of a number token: its sign, its digits as one number, and the powers of ten in its numerator and its denominator
abbrev pub parts_of : List ℕ → TokenParts
parts_of token = record { minus = is_minus token; digits = digits_value 10 (digits_of_token token); up = places_up token; down = places_down token }

-- the parts of a token of this form that is not too long
abbrev pub token_of : List ℕ → Result TokenParts TokenFault
token_of token =
    if not (is_number_token token) then Err NotToken
    else (if is_too_long token then Err TooLong
    else Ok (parts_of token))
