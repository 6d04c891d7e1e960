-- What a reader of JSON finds in a string.
use Rattle.std.proofs.Common.{◌≡◌, ◌∙◌, ℕ, suc, ◌+◌, ◌*◌, ◌/◌, ◌%◌, ◌<◌, true, false, ◌==◌, List, [], ◌∷◌, ◌++◌, inl, inr, refl, ap, arith, append_assoc, Some}
use Rattle.std.proofs.lemmas.Bool.{and_parts, leb-true, le-ltb, lt-leb, lt-ltb, ne_eqb}
use Rattle.std.proofs.lemmas.Str.{digit_value-digit_char}
use Rattle.std.specs.Prelude.{flat_map, nat_le, nat_lt}
use Rattle.std.specs.List.{All}
use Rattle.std.specs.Char.{digit_char, digit_value, encode_utf8}
use Rattle.byte_sinks.proofs.JsonFacts.{Form, marked, itself, digits, form_of}
use Rattle.byte_sinks.specs.Json.{json_byte, json_text}
use Rattle.json.specs.Text.{code_unit, content, plain, prepend, short_escape}

-- the number that the digits of a byte spell
module _ (b : ℕ) (h : b < 256) where
  code_of_digits : code_unit 48 48 (digit_char (b / 16)) (digit_char (b % 16)) ≡ Some b
  unfolding code_unit
  code_of_digits =
      let high : digit_value (digit_char (b / 16)) ≡ b / 16 = digit_value-digit_char (b / 16) (omega arith) in
      let low : digit_value (digit_char (b % 16)) ≡ b % 16 = digit_value-digit_char (b % 16) (omega arith) in
      let high_is : nat_lt (b / 16) 16 ≡ true = lt-ltb (b / 16) 16 (omega arith) in
      let low_is : nat_lt (b % 16) 16 ≡ true = lt-ltb (b % 16) 16 (omega arith) in
      let sum : 0 + b / 16 * 16 + b % 16 ≡ b = omega arith in
      rw (high, low, high_is, low_is) (ap Some sum)

-- what a reader makes of the form of a byte
read-form : (b : ℕ) (xs : List ℕ) → b < 256 → Form b → content plain (json_byte b ++ xs) ≡ prepend (encode_utf8 b) (content plain xs)
unfolding content short_escape encode_utf8
read-form b xs h (marked (inl p) is) = rw (is, p) refl
read-form b xs h (marked (inr p) is) = rw (is, p) refl
read-form b xs h (itself it mark slash is) =
    let (least, most) = and_parts (nat_le 32 b) (nat_le b 126) it in
    let from = leb-true 32 b least in
    let to = leb-true b 126 most in
    let no_mark : (b == 34) ≡ false = ne_eqb b 34 mark in
    let no_slash : (b == 92) ≡ false = ne_eqb b 92 slash in
    let above : nat_lt b 32 ≡ false = le-ltb b 32 (omega (arith, from)) in
    let ascii : nat_lt b 128 ≡ true = lt-ltb b 128 (omega (arith, to)) in
    rw (is, no_mark, no_slash, above, ascii) refl
read-form b xs h (digits is) =
    let under : nat_le 55296 b ≡ false = lt-leb 55296 b (omega (arith, h)) in
    let under_low : nat_le 56320 b ≡ false = lt-leb 56320 b (omega (arith, h)) in
    rw (is, code_of_digits b h, under, under_low) refl

-- and of all of a text
pub read-text : (text rest : List ℕ) → All (λ byte. byte < 256) text
    → content plain (json_text text ++ 34 ∷ rest) ≡ Some (flat_map encode_utf8 text)
unfolding content
read-text [] rest h = refl
read-text (b ∷ text) rest h =
    ap (content plain) (append_assoc (json_byte b) (json_text text) (34 ∷ rest))
    ∙ read-form b (json_text text ++ 34 ∷ rest) (h 0 0 (omega arith)) (form_of b)
    ∙ ap (prepend (encode_utf8 b)) (read-text text rest (λ k d lt. h (suc k) d (omega (arith, lt))))
