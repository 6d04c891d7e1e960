-- Members of JSON objects.
use Rattle.std.specs.Prelude.{◌++◌, ◌∷◌, ◌==◌, ◌||◌, ◌&&◌, ◌/◌, ◌%◌, ℕ, Bool, List, [], codes, decimal, flat_map, if◌then◌else◌, nat_le}
use Rattle.std.specs.Char.{digit_char}

-- a printable byte of ASCII
abbrev pub is_printable : ℕ → Bool
is_printable b = nat_le 32 b && nat_le b 126

-- a byte as it stands in a string: a quotation mark and a backslash come after a backslash, another printable byte stands for itself,
-- and any other byte is the character with its number, in hexadecimal digits
abbrev pub json_byte : ℕ → List ℕ
json_byte b =
    if b == 34 || b == 92 then 92 ∷ b ∷ []
    else (if is_printable b then b ∷ [] else 92 ∷ 117 ∷ 48 ∷ 48 ∷ digit_char (b / 16) ∷ digit_char (b % 16) ∷ [])

-- bytes as they stand in a string
abbrev pub json_text : List ℕ → List ℕ
json_text bytes = flat_map json_byte bytes

-- the name of a member, after what opens its object or parts it from the member before
abbrev pub member_name : List ℕ → List ℕ → List ℕ
member_name before name = before ++ (34 ∷ name ++ 34 ∷ codes ": ")

-- a member whose value is a string
abbrev pub text_member : List ℕ → List ℕ → List ℕ → List ℕ
text_member before name text = member_name before name ++ (34 ∷ json_text text ++ 34 ∷ [])

-- a member whose value is a number
abbrev pub number_member : List ℕ → List ℕ → ℕ → List ℕ
number_member before name n = member_name before name ++ decimal n
