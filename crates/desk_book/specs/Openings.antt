-- Which opening stands at the front of bytes: a head line, and the text of a form behind it.
use Rattle.std.specs.Prelude.{ℕ, List, [], ◌∷◌, ◌+◌, Option, Some, None, codes, drop, if◌then◌else◌, length, nat_le, take}
use Rattle.std.specs.Str.{bytes_eq}
use Rattle.auction_terms.specs.declared.limits.TheConstants.{TEXT_LIMIT}
use Rattle.desk_book.specs.Calls.{digest_named, head_fields, line_end, number_up_to}
use Rattle.desk_book.specs.declared.openings.Opening.{Opening}
use Rattle.desk_book.specs.inside.Then.{◌>>=◌}

-- a salt and a text, and how many bytes both have with their head
pub record OpeningParts : Type 0 where
  pub salt : List ℕ
  pub text : List ℕ
  pub len : ℕ

-- the salt, and how many bytes the text has, in the fields of a head line
abbrev pub opening_in : List (List ℕ) → Option (List ℕ × ℕ)
opening_in (kind ∷ salt ∷ len ∷ []) = do
  s ← digest_named salt
  n ← number_up_to TEXT_LIMIT len
  if bytes_eq kind (codes "%opening") then Some (s, n) else None
opening_in _ = None

-- the opening with this head of so many bytes, behind which these stand
abbrev pub opening_with : Option (List ℕ × ℕ) → ℕ → List ℕ → Option OpeningParts
opening_with None at behind = None
opening_with (Some h) at behind =
    if nat_le h.1 (length behind) then Some (record { salt = h.0; text = take h.1 behind; len = at + h.1 }) else None

abbrev pub opening_ending : List ℕ → Option ℕ → Option OpeningParts
opening_ending bytes None = None
opening_ending bytes (Some end) = opening_with (opening_in (head_fields (take end bytes))) (end + 1) (drop (end + 1) bytes)

-- the opening at the front of bytes
unfoldable pub opening_at : List ℕ → Option OpeningParts
opening_at bytes = opening_ending bytes (line_end bytes)

-- an opening that was found
abbrev pub opening_found : Opening → OpeningParts
opening_found o = record { salt = o.salt; text = o.text.now; len = o.len }
