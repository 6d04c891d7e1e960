-- Reading the entries of a journal, one by one.
use Rattle.std.specs.Prelude.{ℕ, ⊤, List, ◌≡◌, ◌≢◌, ◌<◌, ◌≤◌, ◌+◌, ◌++◌, Result, Ok, Err, drop, length, take}
use Rattle.desk_book.specs.Entries.{sealed_of}
use Rattle.desk_book.specs.Journals.{AreWritten, HasNoEntry, IsDamaged, IsLinked, IsTorn, IsWritten, Written, desk_after, texts_of}
use Rattle.desk_book.specs.ReadEntries.{HeadParts}
use Rattle.desk_book.specs.declared.desk.Desk.{Desk}
use Rattle.desk_book.specs.declared.replaying.ReadFault.{ReadFault}
use Rattle.desk_book.specs.declared.replaying.ReadFault.TheVariants as fault
use Rattle.desk_book.specs.declared.replaying.Taken.{Taken}
use Rattle.desk_book.specs.declared.replaying.Taken.TheVariants as taken
use Rattle.desk_book.specs.inside.Asking.{head_parts}

-- a desk may write these bytes next, and this is the desk then
abbrev pub IsNextEntry : {J : Type 0} → Desk J → List ℕ → Desk J → Type 0
IsNextEntry m bytes n = (e : Written _) × IsWritten m e × (e.text ≡ bytes) × (e.next ≡ n)

-- these bytes are no entry of these words that a desk may write next
abbrev pub IsOtherEntry : {J : Type 0} → Desk J → HeadParts → List ℕ → List ℕ → Type 0
IsOtherEntry m head sealed bytes =
    (e : Written _) → IsWritten m e → head ≡ head_parts m.rules (length m.book + 1) e.call e.durable → sealed ≡ sealed_of e.call → e.text ≢ bytes

-- an entry at the front of bytes was taken, if there is one
abbrev pub IsEntryTaken : {J : Type 0} → Desk J → List ℕ → Taken → Desk J → Type 0
IsEntryTaken m bytes (taken.Entry len) n = IsNextEntry m (take len bytes) n × (0 < len) × (len ≤ length bytes)
IsEntryTaken m bytes taken.NoEntry n = (n ≡ m) × ¬ (IsLinked m bytes)
IsEntryTaken m bytes taken.Other n = IsLinked m bytes × HasNoEntry m bytes

-- the bytes between two places are entries, which lead from one desk to another
pub record IsReadTo {J : Type 0} (start : Desk J) (bytes : List ℕ) (from at : ℕ) (m : Desk J) : Type 0 where
  pub entries : List (Written J)
  pub written : AreWritten start entries
  pub bytes_are : take at bytes ≡ take from bytes ++ texts_of entries
  pub within : at ≤ length bytes
  pub extent : m.extent ≡ at
  pub desk_is : m ≡ desk_after start entries

-- the entries behind a place are read, up to an end, or up to where something is lost
abbrev pub AreEntriesRead : {J : Type 0} → Desk J → List ℕ → ℕ → Result ℕ ReadFault → Desk J → Type 0
AreEntriesRead start bytes from (Ok end) n = IsReadTo start bytes from end n × IsTorn n (drop end bytes)
AreEntriesRead start bytes from (Err (fault.Damaged at)) n = (m : Desk _) × IsReadTo start bytes from at m × IsDamaged m (drop at bytes)
AreEntriesRead start bytes from (Err fault.OutOfMemory) n = ⊤
AreEntriesRead start bytes from (Err (fault.Front why)) n = ⊥
AreEntriesRead start bytes from (Err (fault.Rules why)) n = ⊥
