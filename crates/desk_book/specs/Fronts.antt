-- The front of a journal, which is the first call, too: its first line, and the rules with a line that says how many bytes they have.
use Rattle.std.specs.Prelude.{ℕ, List, [], ◌∷◌, ◌+◌, ◌&&◌, Bool, Option, Some, None, Result, Ok, Err, codes, drop, if◌then◌else◌, length, nat_le, nat_lt, not, take}
use Rattle.std.specs.List.{list_all}
use Rattle.std.specs.Str.{bytes_eq}
use Rattle.auction_terms.specs.RulesText.{is_between}
use Rattle.auction_terms.specs.declared.limits.TheConstants.{TEXT_LIMIT}
use Rattle.desk_book.specs.Calls.{digest_named, head_fields, line_end, number_up_to}
use Rattle.desk_book.specs.Digests.{sha_digits}
use Rattle.desk_book.specs.Judging.{ends_line}
use Rattle.desk_book.specs.declared.front.DeskFront.{DeskFront}
use Rattle.desk_book.specs.declared.front.FrontFault.{FrontFault}
use Rattle.desk_book.specs.declared.front.FrontFault.TheVariants as fault
use Rattle.desk_book.specs.declared.limits.TheConstants.{HEAD_LIMIT}
use Rattle.desk_book.specs.inside.Then.{◌>>=◌}

-- a front: its first line without the line end, the text of the rules, and how many bytes it has
pub record JournalFront : Type 0 where
  pub line : List ℕ
  pub rules : List ℕ
  pub len : ℕ

-- 1 to 128 printable characters of ASCII other than blanks
abbrev pub is_word : List ℕ → Bool
is_word field = nat_le 1 (length field) && nat_le (length field) 128 && list_all (λ b. is_between 33 126 b) field

abbrev pub word_named : List ℕ → Option (List ℕ)
word_named field = if is_word field then Some field else None

-- the digest of the rules that the fields of a first line have, behind its version and the word for the round
abbrev pub rules_digest_in : List (List ℕ) → Option (List ℕ)
rules_digest_in (kind ∷ version ∷ round ∷ digest ∷ holders ∷ closes ∷ key ∷ []) = do
  r ← word_named round
  d ← digest_named digest
  h ← word_named holders
  c ← word_named closes
  k ← word_named key
  if bytes_eq kind (codes "%desk") && bytes_eq version (codes "2") then Some d else None
rules_digest_in _ = None

-- how many bytes the rules have, as the fields of the second line say
abbrev pub rules_len_in : List (List ℕ) → Option ℕ
rules_len_in (kind ∷ len ∷ []) = do
  n ← number_up_to TEXT_LIMIT len
  if bytes_eq kind (codes "%rules") then Some n else None
rules_len_in _ = None

-- where the line at the front of bytes ends, or why there is none
abbrev pub line_ending : List ℕ → Option ℕ → Result ℕ FrontFault
line_ending bytes None = if nat_lt (length bytes) HEAD_LIMIT then Err fault.Short else Err fault.None
line_ending bytes (Some end) = Ok end

unfoldable pub line_ended : List ℕ → Result ℕ FrontFault
line_ended bytes = line_ending bytes (line_end bytes)

-- the front whose rules, of this digest and so many bytes, are to stand in these bytes, behind so many others
unfoldable pub front_with : List ℕ → List ℕ → ℕ → ℕ → List ℕ → Result JournalFront FrontFault
front_with line digest count at behind =
    if nat_lt (length behind) count then Err fault.Short
    else if not (bytes_eq (sha_digits (take count behind)) digest) then Err fault.Digest
    else if not (ends_line (take count behind)) then Err fault.NoLineEnd
    else Ok (record { line = line; rules = take count behind; len = at + count })

module _ (bytes : List ℕ) where
  abbrev pub front_counted : ℕ → List ℕ → ℕ → Option ℕ → Result JournalFront FrontFault
  front_counted first digest second None = Err fault.None
  front_counted first digest second (Some count) =
      front_with (take first bytes) digest count (first + 1 + second + 1) (drop (second + 1) (drop (first + 1) bytes))

  abbrev pub front_second : ℕ → List ℕ → Result ℕ FrontFault → Result JournalFront FrontFault
  front_second first digest (Err why) = Err why
  front_second first digest (Ok second) = front_counted first digest second (rules_len_in (head_fields (take second (drop (first + 1) bytes))))

  abbrev pub front_behind : ℕ → Option (List ℕ) → Result JournalFront FrontFault
  front_behind first None = Err fault.None
  front_behind first (Some digest) = front_second first digest (line_ended (drop (first + 1) bytes))

  abbrev pub front_first : Result ℕ FrontFault → Result JournalFront FrontFault
  front_first (Err why) = Err why
  front_first (Ok first) = front_behind first (rules_digest_in (head_fields (take first bytes)))

-- the front at the front of bytes, or why there is none
unfoldable pub front_at : List ℕ → Result JournalFront FrontFault
front_at bytes = front_first bytes (line_ended bytes)

-- a front that was found
abbrev pub front_found : DeskFront → JournalFront
front_found f = record { line = f.line.now; rules = f.rules.now; len = f.len }
