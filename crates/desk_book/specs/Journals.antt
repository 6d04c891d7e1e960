-- Journals: what a desk has written, and what is read of it again.
use Rattle.std.specs.Prelude.{ℕ, List, [], ◌∷◌, ◌≡◌, ◌≢◌, ◌<◌, ◌≤◌, ◌^◌, ◌==◌, ◌&&◌, ◌⊎◌, ◌++◌, ⊤, Bool, Some, Result, Ok, Err, true, false, drop, if◌then◌else◌, length, nat_le, nat_lt, slice_get, take}
use Rattle.std.specs.Option.{option_map_or}
use Rattle.auction_terms.specs.Numbers.{number_of}
use Rattle.auction_terms.specs.Records.{records_of}
use Rattle.auction_terms.specs.RulesText.{rules_of_records}
use Rattle.auction_terms.specs.Terms.{Terms}
use Rattle.auction_terms.specs.declared.limits.TheConstants.{TEXT_LIMIT}
use Rattle.auction_terms.specs.declared.rules_text.RulesFault.{RulesFault}
use Rattle.auction_terms.specs.declared.rules_text.RulesFault.TheVariants as rules_fault
use Rattle.bid_book.specs.History.{is_closed}
use Rattle.bid_book.specs.declared.records.Entry.{Entry}
use Rattle.desk_line.specs.Served.{LineState}
use Rattle.desk_book.specs.Answers.{all_durable}
use Rattle.desk_book.specs.Digests.{sha_digits}
use Rattle.desk_book.specs.Entries.{chain_after}
use Rattle.desk_book.specs.Fronts.{JournalFront, front_at}
use Rattle.desk_book.specs.ReadEntries.{EntryParts, HeadParts, entry_at, head_at}
use Rattle.desk_book.specs.Recording.{IsRecordedAs}
use Rattle.desk_book.specs.declared.answer.Answer.{Answer}
use Rattle.desk_book.specs.declared.asked.Asked.{Asked}
use Rattle.desk_book.specs.declared.commitment.Commitment.{Commitment}
use Rattle.desk_book.specs.declared.desk.Desk.{Desk}
use Rattle.desk_book.specs.declared.replaying.ReadFault.{ReadFault}
use Rattle.desk_book.specs.declared.replaying.ReadFault.TheVariants as read_fault
use Rattle.desk_book.specs.declared.replaying.Replayed.{Replayed}

-- an entry of a journal: the call and its answer, how many bytes of the journal were on the disk, the bytes of the entry, and the desk
-- after it
pub record Written (J : Type 0) : Type 0 where
  pub call : Asked
  pub told : Answer
  pub durable : ℕ
  pub text : List ℕ
  pub next : Desk J

-- a desk may write this entry next: the round is open, and the entry is what is recorded of the call
pub record IsWritten {J : Type 0} (m : Desk J) (e : Written J) : Type 0 where
  pub is_open : is_closed m.book ≡ false
  pub durable : e.durable ≤ m.extent
  pub number : e.durable < 10 ^ 18
  pub recorded : IsRecordedAs (record m { durable = e.durable }) e.call e.told e.text e.next

module _ {J : Type 0} where
  -- these are entries that a desk may write, one after the other
  abbrev pub AreWritten : Desk J → List (Written J) → Type 0
  AreWritten m [] = ⊤
  AreWritten m (e ∷ entries) = IsWritten m e × AreWritten e.next entries

  -- the desk after entries
  abbrev pub desk_after : Desk J → List (Written J) → Desk J
  desk_after m [] = m
  desk_after m (e ∷ entries) = desk_after e.next entries

  -- the bytes of entries
  abbrev pub texts_of : List (Written J) → List ℕ
  texts_of [] = []
  texts_of (e ∷ entries) = e.text ++ texts_of entries

-- the rules that a text describes, or its first fault
abbrev pub rules_read : List ℕ → Result Terms RulesFault
rules_read text = if nat_le (length text) TEXT_LIMIT then rules_of_records (records_of text) else Err rules_fault.TooLarge

-- a desk whose journal is its front alone
pub record IsOpened {J : Type 0} (judge : J) (bytes : List ℕ) (front : JournalFront) (m : Desk J) : Type 0 where
  pub judge_is : m.judge ≡ judge
  pub rules_are : rules_read front.rules ≡ Ok m.rules
  pub rules_text_is : m.rules_text.items ≡ front.rules
  pub no_entry : m.book ≡ []
  pub extent : m.extent ≡ front.len
  pub durable : m.durable ≡ front.len
  pub chain : m.chain ≡ sha_digits (take front.len bytes)

-- so many bytes are a journal: its front, and entries that its desk may have written; they lead to this desk
pub record IsJournal {J : Type 0} (judge : J) (bytes : List ℕ) (end : ℕ) (desk : Desk J) : Type 0 where
  pub front : JournalFront
  pub start : Desk J
  pub entries : List (Written J)
  pub front_is : front_at bytes ≡ Ok front
  pub opened : IsOpened judge bytes front start
  pub written : AreWritten start entries
  pub bytes_are : take end bytes ≡ take front.len bytes ++ texts_of entries
  pub within : end ≤ length bytes
  pub extent : desk.extent ≡ end
  pub desk_is : desk ≡ desk_after start entries

-- an entry stands at the front of bytes whose chain is right after that of a desk
pub record IsLinked {J : Type 0} (m : Desk J) (bytes : List ℕ) : Type 0 where
  pub parts : EntryParts
  pub stands : entry_at bytes ≡ Some parts
  pub linked : parts.tail.chain ≡ chain_after m.chain (take parts.chain_at bytes)

-- a desk may write no entry next that stands at the front of bytes
abbrev pub HasNoEntry : {J : Type 0} → Desk J → List ℕ → Type 0
HasNoEntry m bytes = (e : Written _) (more : List ℕ) → IsWritten m e → bytes ≢ e.text ++ more

-- whether a head line at the front of bytes says that more bytes than these were on the disk
unfoldable pub says_beyond : ℕ → List ℕ → Bool
says_beyond at bytes =
    option_map_or (λ b. b == 37) (slice_get bytes 0) false
    && option_map_or (λ (h : HeadParts × ℕ). option_map_or (λ d. nat_lt at d) (number_of h.0.durable) false) (head_at bytes) false

-- some head line in bytes says so
abbrev pub SaysBeyond : List ℕ → ℕ → Type 0
SaysBeyond bytes at = (place : ℕ) × (place < length bytes) × (says_beyond at (drop place bytes) ≡ true)

-- bytes that may be cut off: no entry with the right chain stands at their front, and no head line in them says that more was on the disk
pub record IsTorn {J : Type 0} (m : Desk J) (bytes : List ℕ) : Type 0 where
  pub no_entry : ¬ (IsLinked m bytes)
  pub not_told : ¬ (SaysBeyond bytes m.extent)

-- bytes of which something is lost that was told: there is no entry with the right chain, and a head line says that more was on the disk;
-- or there is one, and a desk doesn't write it
abbrev pub IsDamaged : {J : Type 0} → Desk J → List ℕ → Type 0
IsDamaged m bytes = (¬ (IsLinked m bytes) × SaysBeyond bytes m.extent) ⊎ (IsLinked m bytes × HasNoEntry m bytes)

-- what is read of a journal: the desk that goes on with it, and where it ends
abbrev pub IsReadAs : {J : Type 0} → J → List ℕ → Result (Replayed J) ReadFault → Type 0
IsReadAs judge bytes (Ok r) = (m : Desk _) × IsJournal judge bytes r.end m × IsTorn m (drop r.end bytes) × (r.desk ≡ all_durable m)
IsReadAs judge bytes (Err (read_fault.Front why)) = front_at bytes ≡ Err why
IsReadAs judge bytes (Err (read_fault.Rules why)) = (front : JournalFront) × (front_at bytes ≡ Ok front) × (rules_read front.rules ≡ Err why)
IsReadAs judge bytes (Err (read_fault.Damaged at)) = (m : Desk _) × IsJournal judge bytes at m × IsDamaged m (drop at bytes)
IsReadAs judge bytes (Err read_fault.OutOfMemory) = ⊤

-- two desks that tell and record the same from here on
pub record AreDesksAlike {J : Type 0} (m n : Desk J) : Type 0 where
  pub judge : m.judge ≡ n.judge
  pub rules : m.rules ≡ n.rules
  pub rules_text : m.rules_text.items ≡ n.rules_text.items
  pub book : m.book ≡ n.book
  pub extent : m.extent ≡ n.extent
  pub chain : m.chain ≡ n.chain

-- a whole journal is read as the desk that has written it
abbrev pub IsReadBack : {J : Type 0} → Desk J → ℕ → Result (Replayed J) ReadFault → Type 0
IsReadBack m end (Ok r) = (r.end ≡ end) × AreDesksAlike m r.desk × (r.desk.durable ≡ end)
IsReadBack m end (Err (read_fault.Front why)) = ⊥
IsReadBack m end (Err (read_fault.Rules why)) = ⊥
IsReadBack m end (Err (read_fault.Damaged at)) = ⊥
IsReadBack m end (Err read_fault.OutOfMemory) = ⊤

-- of a journal whose first bytes a desk has written all of these are read: the history is this desk's, and perhaps goes on; and what is
-- lost is behind them
abbrev pub IsReadBeyond : {J : Type 0} → Desk J → ℕ → Result (Replayed J) ReadFault → Type 0
IsReadBeyond m end (Ok r) = (end ≤ r.end) × ((more : List (Entry Commitment)) × (r.desk.book ≡ m.book ++ more))
IsReadBeyond m end (Err (read_fault.Front why)) = ⊥
IsReadBeyond m end (Err (read_fault.Rules why)) = ⊥
IsReadBeyond m end (Err (read_fault.Damaged at)) = end ≤ at
IsReadBeyond m end (Err read_fault.OutOfMemory) = ⊤

-- what is kept on a line is a journal, and the state of the line is that of the desk that has written it
pub record KeepsJournal {J : Type 0} (judge : J) (line : LineState (Desk J)) : Type 0 where
  pub kept : List ℕ
  pub desk : Desk J
  pub kept_is : line.kept ≡ Some kept
  pub journal : IsJournal judge kept (length kept) desk
  pub alike : AreDesksAlike desk line.state
