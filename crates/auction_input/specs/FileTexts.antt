-- What is read of files by their names.
use Rattle.std.specs.Prelude.{◌≡◌, ◌≤◌, ◌+◌, ◌-◌, ◌++◌, ◌==◌, ◌||◌, if◌then◌else◌, ⊤, ℕ, Bool, List, [], ◌∷◌, Option, None, Some, Result, Err, String, codes, false, length, map, nat_le, not, slice_index_or, sum_by, true}
use Rattle.std.specs.Bool.{MatchBool}
use Rattle.std.specs.Option.{option_map}
use Rattle.std.specs.Io.KnownBytes.{Consumes, IsAtEnd}
use Rattle.std.specs.Str.{bytes_eq}
use Rattle.auction_terms.specs.FirstFault.{first_failed}
use Rattle.auction_input.specs.Input.{NamedText, unnamed}
use Rattle.auction_input.specs.ReadInput.{IsUntaken, IsWhole}
use Rattle.auction_input.specs.declared.files.FileFault.{FileFault}
use Rattle.auction_input.specs.declared.files.FileFault.TheVariants as fault
use Rattle.auction_input.specs.declared.files.FilePlace.TheVariants as place_of_file
use Rattle.auction_input.specs.declared.files.Identity.{Identity}
use Rattle.auction_input.specs.declared.input.Unread.{Unread}
use Rattle.auction_input.specs.declared.input.Unread.TheVariants as unread
use Rattle.auction_input.specs.declared.input.InputFault.TheVariants as input
use Rattle.auction_input.specs.declared.input.TheConstants.{INPUT_LIMIT}
use Rattle.byte_sinks.specs.Sinks.{HasFailed, Outlet}

-- files by their names, as contracts see them; nothing is known of those of a device
pub record Shelf : Type 0 where
  -- the bytes of the file of a name
  pub content : List ℕ → Option (List ℕ)
  -- what opening the file of a name finds: nothing against it, or why it isn't opened
  pub opened : List ℕ → Option (Result (Unit {0}) FileFault)
  -- what distinguishes standard input from files, if the system knows
  pub standard_input : Option (Option Identity)
  -- what distinguishes the file of a name that is to be read, or why it isn't read
  pub readable : List ℕ → Option (Result Identity FileFault)
  -- what distinguishes the file of a name that is to be replaced, if there is one yet, or why it isn't replaced
  pub replaced : List ℕ → Option (Result (Option Identity) FileFault)
  -- whether the file of a name may be written
  pub rights : List ℕ → Option (Result (Unit {0}) FileFault)

-- what was found is what there is, where that is known
abbrev pub IsFound : {A : Type 0} → Option A → A → Type 0
IsFound None found = ⊤
IsFound (Some known) found = found ≡ known

-- the names that stand for standard input
abbrev pub is_standard_input : List ℕ → Bool
is_standard_input name = bytes_eq name (codes "-") || bytes_eq name (codes "/dev/stdin")

-- the names that stand for standard output
abbrev pub is_standard_output : List ℕ → Bool
is_standard_output name = bytes_eq name (codes "-") || bytes_eq name (codes "/dev/stdout")

-- a sink that is sent to a file, by its name: nothing is taken there yet
abbrev pub sent_to : List ℕ → Outlet → Outlet
sent_to name sink =
    if is_standard_output name then sink
    else record { place = Some name; taken = option_map (λ bytes. []) sink.taken; failures = sink.failures }

-- bytes are those of a file, if the file's bytes are known
abbrev pub IsContent : Option (List ℕ) → List ℕ → Type 0
IsContent None bytes = ⊤
IsContent (Some whole) bytes = bytes ≡ whole

-- what is read by a name: standard input to its end, or a file, of which standard input knows nothing
abbrev pub IsTextOf : (List ℕ → Option (List ℕ)) → List ℕ → Option (List ℕ) → Option (List ℕ) → List ℕ → Type 0
IsTextOf content name left left' bytes =
    MatchBool (is_standard_input name) (Consumes left left' bytes × IsAtEnd left') ((left' ≡ left) × IsContent (content name) bytes)

-- the bytes of names
abbrev pub named_files : {Z : Type 0} → List (String Z) → List (List ℕ)
named_files names = map (λ name. name.bytes.items) names

-- the texts that are read by these names, one after the other
abbrev pub AreRead : (List ℕ → Option (List ℕ)) → List (List ℕ) → Option (List ℕ) → Option (List ℕ) → List NamedText → Type 0
AreRead content [] left left' texts = (texts ≡ []) × (left' ≡ left)
AreRead content (name ∷ names) left left' texts =
    (bytes : List ℕ) × (more : List NamedText) × (mid : Option (List ℕ)) × (texts ≡ record { name = name; bytes = bytes } ∷ more)
    × IsTextOf content name left mid bytes × AreRead content names mid left' more

-- what is wrong with the text at a place among so many: with others it may not be empty, and where one follows its last line has an end
abbrev pub fault_among : List ℕ → ℕ → ℕ → Option FileFault
fault_among text place count =
    if count == 1 then None
    else first_failed ((not (length text == 0), fault.Empty) ∷ (
      nat_le count (place + 1) || slice_index_or text (length text -
          1) 0 == 10,
      fault.NoLineEnd,
    ) ∷ [])

-- nothing is wrong with texts that are at their places among so many, the first of them at this one
abbrev pub AreSound : ℕ → ℕ → List NamedText → Type 0
AreSound place count [] = ⊤
AreSound place count (text ∷ texts) = (fault_among text.bytes place count ≡ None) × AreSound (place + 1) count texts

-- how many bytes texts have together
abbrev pub bytes_in : List NamedText → ℕ
bytes_in texts = sum_by (λ given. length given.bytes) texts

-- the texts that a command reads: without names standard input, as one text by itself; else the texts of the names, with each of which
-- nothing is wrong, and which have no more bytes together than an input may have
abbrev pub IsInputRead : (List ℕ → Option (List ℕ)) → List (List ℕ) → Option (List ℕ) → Option (List ℕ) → List NamedText → Type 0
IsInputRead content [] left left' texts = (bytes : List ℕ) × IsWhole INPUT_LIMIT left left' bytes × (texts ≡ unnamed bytes ∷ [])
IsInputRead content names left left' texts =
    AreRead content names left left' texts × AreSound 0 (length names) texts × (bytes_in texts ≤ INPUT_LIMIT)

-- a file begins with these bytes, if its bytes are known
abbrev pub BeginsWith : Option (List ℕ) → List ℕ → Type 0
BeginsWith None bytes = ⊤
BeginsWith (Some whole) bytes = (rest : List ℕ) × (whole ≡ bytes ++ rest)

-- what is read by a name, to its end or not: the first bytes of standard input, or of a file, of which standard input knows nothing
abbrev pub IsFrontOf : (List ℕ → Option (List ℕ)) → List ℕ → Option (List ℕ) → Option (List ℕ) → List ℕ → Type 0
IsFrontOf content name left left' bytes =
    MatchBool (is_standard_input name) (Consumes left left' bytes) ((left' ≡ left) × BeginsWith (content name) bytes)

-- a file at a place isn't read for this reason
abbrev pub refused_at : ℕ → FileFault → Unread
refused_at place f = unread.File (record { file = place_of_file.Read place; fault = f })

-- why the text of a name isn't read, which is at a place among so many, and where there is room for so many bytes
pub data IsTextUnread (shelf : Shelf) (name : List ℕ) (place count room : ℕ) (left left' : Option (List ℕ)) (reads reads' : ℕ) : Unread → Type 0 where
  -- its file can't be opened
  unopened : (f : FileFault) → is_standard_input name ≡ false → IsFound (shelf.opened name) (Err f) → left' ≡ left → reads' ≡ reads
      → IsTextUnread shelf name place count room left left' reads reads' (refused_at place f)
  -- a read of its file fails
  file_failed : (bytes : List ℕ) → is_standard_input name ≡ false → IsFrontOf shelf.content name left left' bytes → length bytes ≤ room + 1
      → HasFailed reads reads' → IsTextUnread shelf name place count room left left' reads reads' (refused_at place fault.ReadFailed)
  -- a read of standard input fails
  input_failed : (bytes : List ℕ) → is_standard_input name ≡ true → IsFrontOf shelf.content name left left' bytes → length bytes ≤ room + 1
      → HasFailed reads reads' → IsTextUnread shelf name place count room left left' reads reads' (unread.Input input.ReadFailed)
  -- it has more bytes than there is room for, of which one is read
  too_large : (bytes : List ℕ) → IsFrontOf shelf.content name left left' bytes → length bytes ≡ room + 1 → reads' ≡ reads
      → IsTextUnread shelf name place count room left left' reads reads' (unread.Input input.TooLarge)
  -- memory is short
  memory_short : (bytes : List ℕ) → IsFrontOf shelf.content name left left' bytes → length bytes ≤ room + 1 → reads' ≡ reads
      → IsTextUnread shelf name place count room left left' reads reads' (unread.Input input.OutOfMemory)
  -- it is read to its end, and something is wrong with it at its place
  faulty : (f : FileFault) → (bytes : List ℕ) → IsTextOf shelf.content name left left' bytes → length bytes ≤ room
      → fault_among bytes place count ≡ Some f → reads' ≡ reads → IsTextUnread shelf name place count room left left' reads reads' (refused_at place f)

-- why not all texts of names are read: the texts of the first names are, nothing is wrong with them, and that of the next name isn't
pub record IsUnreadOf (shelf : Shelf) (names : List (List ℕ)) (f : Unread) (left left' : Option (List ℕ)) (reads reads' : ℕ) : Type 0 where
  pub first : List (List ℕ)
  pub next : List ℕ
  pub others : List (List ℕ)
  pub names_are : names ≡ first ++ next ∷ others
  pub texts : List NamedText
  -- what standard input has left when the next text begins
  pub between : Option (List ℕ)
  pub read : AreRead shelf.content first left between texts
  pub sound : AreSound 0 (length names) texts
  -- how many bytes the next text may have
  pub room : ℕ
  pub fit : bytes_in texts + room ≡ INPUT_LIMIT
  pub unread : IsTextUnread shelf next (length first) (length names) room between left' reads reads' f

-- why the input isn't read
abbrev pub IsUnread : Shelf → List (List ℕ) → Unread → Option (List ℕ) → Option (List ℕ) → ℕ → ℕ → Type 0
IsUnread shelf [] (unread.Input f) left left' reads reads' = IsUntaken INPUT_LIMIT f left left' reads reads'
IsUnread shelf [] (unread.File f) left left' reads reads' = ⊥
IsUnread shelf names f left left' reads reads' = IsUnreadOf shelf names f left left' reads reads'
