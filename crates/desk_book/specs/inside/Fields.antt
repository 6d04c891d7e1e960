-- The fields that a line has left, one after the other.
use Rattle.std.specs.Prelude.{ℕ, List, [], ◌∷◌, ◌==◌, ◌&&◌, Bool, true, false, Option, Some, None, codes, drop, if◌then◌else◌, slice_get}
use Rattle.std.specs.List.{slice_split}
use Rattle.std.specs.Str.{bytes_eq}
use Rattle.auction_terms.specs.Numbers.{number_of}
use Rattle.auction_terms.specs.Terms.{Terms}
use Rattle.auction_terms.specs.declared.limits.TheConstants.{TEXT_LIMIT}
use Rattle.desk_book.specs.Calls.{Head, Alone, OfForm, Withdraw, Show, Close, bidder_called, change_named, digest_named, number_up_to, over_named, session_named}
use Rattle.desk_book.specs.Fronts.{word_named}
use Rattle.desk_book.specs.ReadEntries.{HeadParts, TailParts}
use Rattle.desk_book.specs.declared.calls.Who.{Who}
use Rattle.desk_book.specs.declared.openings.OpeningHead.{OpeningHead}
use Rattle.desk_book.specs.declared.limits.TheConstants.{SEALED_LIMIT}
use Rattle.desk_book.specs.inside.Then.{◌>>=◌}

-- the fields in what is left of a line
abbrev pub fields_left : Option (List ℕ) → List (List ℕ)
fields_left None = []
fields_left (Some text) = slice_split (λ b. b == 32) text

-- what is made of the first field
abbrev pub first : {X : Type 0} → (List ℕ → Option X) → List (List ℕ) → Option X
first make fields = slice_get fields 0 >>= make

-- whether no field is left
abbrev pub no_field : List (List ℕ) → Bool
no_field [] = true
no_field (field ∷ more) = false

-- something, where no field is left
abbrev pub at_end : List (List ℕ) → Head → Option Head
at_end fields head = if no_field fields then Some head else None

-- the fields behind those of who makes a call
abbrev pub behind_who : List (List ℕ) → List (List ℕ)
behind_who fields = drop 1 (drop 1 (drop 1 fields))

unfoldable pub close_left : List (List ℕ) → Option Head
close_left fields = do
  t ← first number_of fields
  at_end (drop 1 fields) (Alone (Close t))

abbrev pub form_left : Who → List (List ℕ) → Option Head
form_left who fields = do
  o ← first over_named fields
  s ← first digest_named (drop 1 fields)
  c ← first digest_named (drop 1 (drop 1 fields))
  t ← first (number_up_to TEXT_LIMIT) (drop 1 (drop 1 (drop 1 fields)))
  n ← first (number_up_to SEALED_LIMIT) (drop 1 (drop 1 (drop 1 (drop 1 fields))))
  at_end (drop 1 (drop 1 (drop 1 (drop 1 (drop 1 fields))))) (OfForm who o s c t n)

module _ (rules : Terms) where
  unfoldable pub who_left : List (List ℕ) → Option Who
  who_left fields = do
    b ← first (bidder_called rules) fields
    s ← first (session_named rules b) (drop 1 fields)
    t ← first number_of (drop 1 (drop 1 fields))
    Some (record { bidder = b; session = s; time = t })

  unfoldable pub submit_left : List (List ℕ) → Option Head
  submit_left fields = do
    who ← who_left fields
    form_left who (behind_who fields)

  unfoldable pub withdraw_left : List (List ℕ) → Option Head
  withdraw_left fields = do
    who ← who_left fields
    n ← first change_named (behind_who fields)
    at_end (drop 1 (behind_who fields)) (Alone (Withdraw who n))

  unfoldable pub show_left : List (List ℕ) → Option Head
  show_left fields = do
    who ← who_left fields
    at_end (behind_who fields) (Alone (Show who))

-- the digest of the rules in what is left of the first line of a front
unfoldable pub rules_digest_left : List (List ℕ) → Option (List ℕ)
rules_digest_left fields = do
  kind ← slice_get fields 0
  version ← slice_get (drop 1 fields) 0
  r ← first word_named (drop 1 (drop 1 fields))
  d ← first digest_named (drop 1 (drop 1 (drop 1 fields)))
  h ← first word_named (drop 1 (drop 1 (drop 1 (drop 1 fields))))
  c ← first word_named (drop 1 (drop 1 (drop 1 (drop 1 (drop 1 fields)))))
  k ← first word_named (drop 1 (drop 1 (drop 1 (drop 1 (drop 1 (drop 1 fields))))))
  if no_field (behind_who (behind_who (drop 1 fields))) && (bytes_eq kind (codes "%desk") && bytes_eq version (codes "2")) then Some d else None

-- how many bytes the rules have, in what is left of the second line
unfoldable pub rules_len_left : List (List ℕ) → Option ℕ
rules_len_left fields = do
  kind ← slice_get fields 0
  n ← first (number_up_to TEXT_LIMIT) (drop 1 fields)
  if no_field (drop 1 (drop 1 fields)) && bytes_eq kind (codes "%rules") then Some n else None

-- the head of an entry in what is left of its line
unfoldable pub head_left : List (List ℕ) → Option HeadParts
head_left fields = do
  call ← slice_get fields 0
  entry ← slice_get (drop 1 fields) 0
  time ← slice_get (drop 1 (drop 1 fields)) 0
  bidder ← slice_get (drop 1 (drop 1 (drop 1 fields))) 0
  session ← slice_get (drop 1 (drop 1 (drop 1 (drop 1 fields)))) 0
  kind ← slice_get (drop 1 (drop 1 (drop 1 (drop 1 (drop 1 fields))))) 0
  over ← slice_get (drop 1 (drop 1 (drop 1 (drop 1 (drop 1 (drop 1 fields)))))) 0
  commit ← slice_get (drop 1 (drop 1 (drop 1 (drop 1 (drop 1 (drop 1 (drop 1 fields))))))) 0
  bids ← slice_get (drop 1 (drop 1 (drop 1 (drop 1 (drop 1 (drop 1 (drop 1 (drop 1 fields)))))))) 0
  n ← first (number_up_to SEALED_LIMIT) (drop 1 (drop 1 (drop 1 (drop 1 (drop 1 (drop 1 (drop 1 (drop 1 (drop 1 fields)))))))))
  durable ← slice_get (drop 1 (drop 1 (drop 1 (drop 1 (drop 1 (drop 1 (drop 1 (drop 1 (drop 1 (drop 1 fields)))))))))) 0
  v ← number_of durable
  if no_field (drop 1 (drop 1 (drop 1 (drop 1 (drop 1 (drop 1 (drop 1 (drop 1 (drop 1 (drop 1 (drop 1 fields))))))))))) && bytes_eq call (codes "%call") then Some (record { entry = entry; time = time; bidder = bidder; session = session; kind = kind; over = over; commit = commit; bids = bids; sealed_len = n; durable = durable }) else None

-- the last line of an entry in what is left of it
unfoldable pub tail_left : List (List ℕ) → Option TailParts
tail_left fields = do
  reply ← slice_get fields 0
  answer ← slice_get (drop 1 fields) 0
  number ← slice_get (drop 1 (drop 1 fields)) 0
  chain ← slice_get (drop 1 (drop 1 (drop 1 fields))) 0
  v ← digest_named chain
  if no_field (drop 1 (drop 1 (drop 1 (drop 1 fields)))) && bytes_eq reply (codes "%reply") then Some (record { answer = answer; number = number; chain = chain }) else None

-- the salt, and how many bytes the text has, in what is left of the head line of an opening
unfoldable pub opening_left : List (List ℕ) → Option (List ℕ × ℕ)
opening_left fields = do
  kind ← slice_get fields 0
  s ← first digest_named (drop 1 fields)
  n ← first (number_up_to TEXT_LIMIT) (drop 1 (drop 1 fields))
  if no_field (behind_who fields) && bytes_eq kind (codes "%opening") then Some (s, n) else None

-- a head line that was read
abbrev pub opening_head : OpeningHead → List ℕ × ℕ
opening_head h = (h.salt, h.text_len)
