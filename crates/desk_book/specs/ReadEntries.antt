-- Which entry of a journal stands at the front of bytes.
use Rattle.std.specs.Prelude.{ℕ, List, [], ◌∷◌, ◌+◌, ◌-◌, ◌==◌, false, Option, Some, None, codes, drop, if◌then◌else◌, nat_le, slice_get, take}
use Rattle.std.specs.Option.{option_map_or}
use Rattle.std.specs.Str.{bytes_eq}
use Rattle.auction_terms.specs.Numbers.{number_of}
use Rattle.desk_book.specs.Calls.{digest_named, head_fields, line_end, number_up_to}
use Rattle.desk_book.specs.declared.limits.TheConstants.{SEALED_LIMIT}
use Rattle.desk_book.specs.declared.replaying.EntryText.{EntryText}
use Rattle.desk_book.specs.declared.replaying.HeadWords.{HeadWords}
use Rattle.desk_book.specs.declared.replaying.TailWords.{TailWords}
use Rattle.desk_book.specs.inside.Then.{◌>>=◌}

-- the words of an entry's head line, and how many bytes the sealed form has
pub record HeadParts : Type 0 where
  pub entry : List ℕ
  pub time : List ℕ
  pub bidder : List ℕ
  pub session : List ℕ
  pub kind : List ℕ
  pub over : List ℕ
  pub commit : List ℕ
  pub bids : List ℕ
  pub sealed_len : ℕ
  pub durable : List ℕ

-- the words of an entry's last line
pub record TailParts : Type 0 where
  pub answer : List ℕ
  pub number : List ℕ
  pub chain : List ℕ

-- the parts of an entry, where its chain begins, and how many bytes it has
pub record EntryParts : Type 0 where
  pub head : HeadParts
  pub sealed : List ℕ
  pub tail : TailParts
  pub chain_at : ℕ
  pub len : ℕ

-- the head of an entry, of the fields of its line
abbrev pub head_in : List (List ℕ) → Option HeadParts
head_in (call ∷ entry ∷ time ∷ bidder ∷ session ∷ kind ∷ over ∷ commit ∷ bids ∷ len ∷ durable ∷ []) = do
  n ← number_up_to SEALED_LIMIT len
  d ← number_of durable
  if bytes_eq call (codes "%call") then Some (record { entry = entry; time = time; bidder = bidder; session = session; kind = kind; over = over; commit = commit; bids = bids; sealed_len = n; durable = durable }) else None
head_in _ = None

-- the last line of an entry, of its fields
abbrev pub tail_in : List (List ℕ) → Option TailParts
tail_in (reply ∷ answer ∷ number ∷ chain ∷ []) = do
  d ← digest_named chain
  if bytes_eq reply (codes "%reply") then Some (record { answer = answer; number = number; chain = chain }) else None
tail_in _ = None

-- the head line of an entry at the front of bytes, and where what follows it begins
abbrev pub head_ending : List ℕ → Option ℕ → Option (HeadParts × ℕ)
head_ending bytes None = None
head_ending bytes (Some end) = do
  h ← head_in (head_fields (take end bytes))
  Some (h, end + 1)

unfoldable pub head_at : List ℕ → Option (HeadParts × ℕ)
head_at bytes = head_ending bytes (line_end bytes)

-- the last line of an entry at the front of bytes, and where it ends
abbrev pub tail_ending : List ℕ → Option ℕ → Option (TailParts × ℕ)
tail_ending bytes None = None
tail_ending bytes (Some end) = do
  t ← tail_in (head_fields (take end bytes))
  if nat_le 64 end then Some (t, end) else None

unfoldable pub tail_at : List ℕ → Option (TailParts × ℕ)
tail_at bytes = tail_ending bytes (line_end bytes)

-- the entry with this head of so many bytes, behind which these stand: the sealed form, a line end, and the last line
abbrev pub entry_behind : HeadParts → ℕ → List ℕ → Option EntryParts
entry_behind h at behind = do
  t ← tail_at (drop (h.sealed_len + 1) behind)
  Some (record {
    head = h;
    sealed = take h.sealed_len behind;
    tail = t.0;
    chain_at = at + h.sealed_len + 1 + t.1 - 64;
    len = at + h.sealed_len + 1 + t.1 + 1;
  })

abbrev pub entry_with : List ℕ → Option (HeadParts × ℕ) → Option EntryParts
entry_with bytes None = None
entry_with bytes (Some h) =
    if option_map_or (λ b. b == 10) (slice_get (drop h.1 bytes) h.0.sealed_len) false then entry_behind h.0 h.1 (drop h.1 bytes) else None

-- the entry at the front of bytes
unfoldable pub entry_at : List ℕ → Option EntryParts
entry_at bytes = entry_with bytes (head_at bytes)

-- what was read, as parts
abbrev pub head_read : HeadWords → HeadParts
head_read w = record {
  entry = w.entry.now;
  time = w.time.now;
  bidder = w.bidder.now;
  session = w.session.now;
  kind = w.kind.now;
  over = w.over.now;
  commit = w.commit.now;
  bids = w.bids.now;
  sealed_len = w.sealed_len;
  durable = w.durable.now;
}

abbrev pub tail_read : TailWords → TailParts
tail_read w = record { answer = w.answer.now; number = w.number.now; chain = w.chain.now }

abbrev pub entry_read : EntryText → EntryParts
entry_read e = record {
  head = head_read e.head;
  sealed = e.sealed.now;
  tail = tail_read e.tail;
  chain_at = e.chain_at;
  len = e.len;
}
