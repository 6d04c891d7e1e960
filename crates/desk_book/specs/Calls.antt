-- Which call stands at the front of bytes.
use Rattle.std.specs.Prelude.{ℕ, List, [], ◌∷◌, ◌+◌, ◌-◌, ◌&&◌, ◌||◌, ◌==◌, Bool, Option, Some, None, codes, drop, if◌then◌else◌, length, nat_le, nat_lt, option_map, slice_get, take}
use Rattle.std.specs.Char.{is_ascii_digit}
use Rattle.std.specs.List.{list_all, position, slice_split}
use Rattle.std.specs.Option.{option_map_or}
use Rattle.std.specs.Str.{bytes_eq}
use Rattle.auction_terms.specs.Numbers.{number_of}
use Rattle.auction_terms.specs.RulesText.{is_between}
use Rattle.auction_terms.specs.Terms.{Terms}
use Rattle.auction_terms.specs.declared.limits.TheConstants.{TEXT_LIMIT}
use Rattle.auction_terms.specs.declared.rules.Bidder.{Bidder}
use Rattle.desk_line.specs.declared.machine.Front.{Front}
use Rattle.desk_line.specs.declared.machine.Front.TheVariants as front
use Rattle.desk_book.specs.declared.calls.Call.{Call}
use Rattle.desk_book.specs.declared.calls.Call.TheVariants as call
use Rattle.desk_book.specs.declared.calls.Found.{Found}
use Rattle.desk_book.specs.declared.calls.Found.TheVariants as found
use Rattle.desk_book.specs.declared.calls.Who.{Who}
use Rattle.desk_book.specs.declared.limits.TheConstants.{HEAD_LIMIT, SEALED_LIMIT}
use Rattle.desk_book.specs.inside.Then.{◌>>=◌}

-- what a call asks for
pub data Means : Type 0 where
  Submit : (who : Who) (over : Option ℕ) (salt commit text sealed : List ℕ) → Means
  Withdraw : (who : Who) (over : ℕ) → Means
  Show : (who : Who) → Means
  Close : (time : ℕ) → Means

-- what stands at the front of bytes: a call with the number of its bytes, the beginning of one, or none
pub data Stands : Type 0 where
  Whole : (call : Means) (len : ℕ) → Stands
  Short : Stands
  Wrong : Stands

-- ---------- fields ----------

-- the fields of a head line, parted by single blanks
abbrev pub head_fields : List ℕ → List (List ℕ)
head_fields line = slice_split (λ b. b == 32) line

-- a number up to this one
abbrev pub number_up_to : ℕ → List ℕ → Option ℕ
number_up_to most field = do
  n ← number_of field
  if nat_le n most then Some n else None

-- the number of a change
abbrev pub change_named : List ℕ → Option ℕ
change_named field = number_up_to 999999999 field

-- the number of a change, or a hyphen for none
abbrev pub over_named : List ℕ → Option (Option ℕ)
over_named field = if bytes_eq field (codes "-") then Some None else option_map (λ n. Some n) (change_named field)

-- a digit of a digest
abbrev pub is_hex_digit : ℕ → Bool
is_hex_digit b = is_ascii_digit b || is_between 97 102 b

-- a digest
abbrev pub digest_named : List ℕ → Option (List ℕ)
digest_named field = if (length field == 64) && list_all is_hex_digit field then Some field else None

-- the number of the bidder of that name
abbrev pub bidder_called : Terms → List ℕ → Option ℕ
bidder_called rules name = option_map (λ place. place + 1) (position (λ bidder. bytes_eq bidder.name name) rules.bidders)

-- how many sessions a bidder has
abbrev pub sessions_given : Terms → ℕ → ℕ
sessions_given rules bidder = option_map_or (λ (b : Bidder). b.sessions) (slice_get rules.bidders (bidder - 1)) 0

-- a session of a bidder
abbrev pub session_named : Terms → ℕ → List ℕ → Option ℕ
session_named rules bidder field = do
  n ← number_of field
  if is_between 1 (sessions_given rules bidder) n then Some n else None

-- who makes a call, and when
abbrev pub who_named : Terms → List ℕ → List ℕ → List ℕ → Option Who
who_named rules name session time = do
  b ← bidder_called rules name
  s ← session_named rules b session
  t ← number_of time
  Some (record { bidder = b; session = s; time = t })

-- ---------- head lines ----------

-- a head line: a whole call, or that of a form, which says how many bytes its text and the sealed form have
pub data Head : Type 0 where
  Alone : (call : Means) → Head
  OfForm : (who : Who) (over : Option ℕ) (salt commit : List ℕ) (text_len sealed_len : ℕ) → Head

-- the fields behind each kind of call
abbrev pub close_head : List (List ℕ) → Option Head
close_head (time ∷ []) = do
  t ← number_of time
  Some (Alone (Close t))
close_head _ = None

module _ (rules : Terms) where
  abbrev pub submit_head : List (List ℕ) → Option Head
  submit_head (name ∷ session ∷ time ∷ over ∷ salt ∷ commit ∷ text_len ∷ sealed_len ∷ []) = do
    who ← who_named rules name session time
    o ← over_named over
    s ← digest_named salt
    c ← digest_named commit
    t ← number_up_to TEXT_LIMIT text_len
    n ← number_up_to SEALED_LIMIT sealed_len
    Some (OfForm who o s c t n)
  submit_head _ = None

  abbrev pub withdraw_head : List (List ℕ) → Option Head
  withdraw_head (name ∷ session ∷ time ∷ over ∷ []) = do
    who ← who_named rules name session time
    n ← change_named over
    Some (Alone (Withdraw who n))
  withdraw_head _ = None

  abbrev pub show_head : List (List ℕ) → Option Head
  show_head (name ∷ session ∷ time ∷ []) = do
    who ← who_named rules name session time
    Some (Alone (Show who))
  show_head _ = None

  -- a call that is its head line alone
  abbrev pub call_head : List ℕ → List (List ℕ) → Option Head
  call_head kind fields =
      if bytes_eq kind (codes "%withdraw") then withdraw_head fields
      else if bytes_eq kind (codes "%show") then show_head fields
      else if bytes_eq kind (codes "%close") then close_head fields
      else None

  -- what the fields of a head line say
  abbrev pub head_of : List (List ℕ) → Option Head
  head_of (kind ∷ fields) = if bytes_eq kind (codes "%submit") then submit_head fields else call_head kind fields
  head_of [] = None

-- ---------- calls ----------

-- the call of a head line of so many bytes, behind which these stand
abbrev pub call_of_head : Option Head → ℕ → List ℕ → Stands
call_of_head None len behind = Wrong
call_of_head (Some (Alone call)) len behind = Whole call len
call_of_head (Some (OfForm who over salt commit t s)) len behind =
    if nat_le (t + s) (length behind) then Whole (Submit who over salt commit (take t behind) (take s (drop t behind))) (len + (t + s)) else Short

-- where the head line at the front of bytes has its end, if it has one within the limit
abbrev pub line_end : List ℕ → Option ℕ
line_end bytes = position (λ b. b == 10) (take HEAD_LIMIT bytes)

-- the call whose head line ends there
abbrev pub call_ending : Terms → List ℕ → Option ℕ → Stands
call_ending rules bytes None = if nat_lt (length bytes) HEAD_LIMIT then Short else Wrong
call_ending rules bytes (Some end) = call_of_head (head_of rules (head_fields (take end bytes))) (end + 1) (drop (end + 1) bytes)

-- what stands at the front of bytes
unfoldable pub call_at : Terms → List ℕ → Stands
call_at rules bytes = call_ending rules bytes (line_end bytes)

-- what a call that was read asks for
abbrev pub meant : Call → Means
meant (call.Submit s) = Submit s.who s.over s.salt s.commit s.text.now s.sealed.now
meant (call.Withdraw who over) = Withdraw who over
meant (call.Show who) = Show who
meant (call.Close time) = Close time

-- what was found at the front of bytes
abbrev pub stands_as : Found → Stands
stands_as (found.Whole call len) = Whole (meant call) len
stands_as found.Short = Short
stands_as found.Wrong = Wrong

-- the front that bytes have for a line
abbrev pub front_of : Stands → Front
front_of (Whole call len) = front.Whole len
front_of Short = front.Short
front_of Wrong = front.Wrong
