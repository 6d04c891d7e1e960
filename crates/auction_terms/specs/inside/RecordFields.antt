-- The fields of a record, as the machine of `csv` takes them from bytes.
use Rattle.std.specs.Prelude.{◌≡◌, ◌≢◌, ◌==◌, ⊤, Bool, true, false, ℕ, List, [], ◌∷◌, ◌++◌}
use Rattle.csv.specs.Machine.{carriage_return, line_feed, next_record}
use Rattle.csv.specs.Reading.{default_config}
use Rattle.csv.specs.declared.parser.State.{State}
use Rattle.csv.specs.declared.parser.State.TheVariants as st
use Rattle.memchr.specs.Find.{is_byte3}

-- the byte of a comma
abbrev pub comma : ℕ
comma = 44

-- the byte of a quotation mark
abbrev pub quote : ℕ
quote = 34

-- a comma, or a byte of a line end
abbrev pub ends_field : ℕ → Bool
ends_field = is_byte3 comma line_feed carriage_return

-- whether bytes begin with this byte
abbrev pub begins_with : ℕ → List ℕ → Bool
begins_with byte [] = false
begins_with byte (first ∷ bytes) = first == byte

-- bytes begin with no line end
abbrev pub BeginsNoLineEnd : List ℕ → Type 0
BeginsNoLineEnd [] = ⊤
BeginsNoLineEnd (byte ∷ bytes) = (byte ≢ line_feed) × (byte ≢ carriage_return)

-- there are no bytes, or the first one ends a field
abbrev pub IsAtFieldEnd : List ℕ → Type 0
IsAtFieldEnd [] = ⊤
IsAtFieldEnd (byte ∷ bytes) = ends_field byte ≡ true

-- from a state, and the first bytes of a field, the bytes give the whole field and then the rest, whatever fields came before
abbrev pub GivesField : State → List ℕ → List ℕ → List ℕ → List ℕ → Type 0
GivesField state start bytes field rest =
    ((fields : List (List ℕ)) → next_record default_config state fields start bytes ≡ next_record default_config st.InField fields field rest)
    × IsAtFieldEnd rest

-- after some fields, the bytes give those that come next, and then the rest; these are all of them
abbrev pub TakesFields : List ℕ → List (List ℕ) → List (List ℕ) → List ℕ → Type 0
TakesFields bytes before after rest =
    (others : List (List ℕ)) × (field : List ℕ) × (after ≡ others ++ field ∷ [])
    × (next_record default_config st.StartField before [] bytes ≡ next_record default_config st.InField others field rest)
    × IsAtFieldEnd rest
