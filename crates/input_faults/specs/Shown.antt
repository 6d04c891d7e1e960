-- How bytes of an input are shown.
use Rattle.std.specs.Prelude.{◌+◌, ◌++◌, ◌==◌, ◌||◌, ◌/◌, ◌%◌, ℕ, List, [], ◌∷◌, codes, flat_map, if◌then◌else◌, length, nat_lt, take}
use Rattle.auction_terms.specs.RulesText.{is_between}

-- a hexadecimal digit
abbrev pub hex_digit : ℕ → ℕ
hex_digit n = if nat_lt n 10 then n + 48 else n + 87

-- a quotation mark and a backslash come after a backslash, a printable byte of ASCII stands for itself, and of any other byte its two digits
abbrev pub shown_byte : ℕ → List ℕ
shown_byte b =
    if b == 39 || b == 92 then 92 ∷ b ∷ []
    else (if is_between 32 126 b then b ∷ [] else 92 ∷ 120 ∷ hex_digit (b / 16) ∷ hex_digit (b % 16) ∷ [])

-- a text between quotation marks; of one of more than 40 bytes the first 40
abbrev pub shown_text : List ℕ → List ℕ
shown_text text = codes "'" ++ (flat_map shown_byte (take 40 text) ++ (if nat_lt 40 (length text) then codes "'..." else codes "'"))
