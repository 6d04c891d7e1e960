-- What a look at the files of a command line finds, before any of them is opened.
use Rattle.std.specs.Prelude.{◌≡◌, ◌&&◌, ◌++◌, ◌==◌, if◌then◌else◌, ℕ, Bool, List, [], ◌∷◌, Option, None, Some, Result, Ok, Err, codes, false, length, true}
use Rattle.std.specs.List.{AllZip, list_any, position_or_len}
use Rattle.std.specs.Option.{option_map}
use Rattle.std.specs.Result.{result_err}
use Rattle.auction_terms.specs.FirstFault.{first_fault}
use Rattle.auction_input.specs.FileTexts.{IsFound, Shelf, is_standard_input, is_standard_output}
use Rattle.auction_input.specs.declared.files.FileFault.{FileFault}
use Rattle.auction_input.specs.declared.files.FileFault.TheVariants as fault
use Rattle.auction_input.specs.declared.files.FilePlace.TheVariants as place
use Rattle.auction_input.specs.declared.files.FileRefusal.{FileRefusal}
use Rattle.auction_input.specs.declared.files.Identity.{Identity}

-- what is found of a file that is read: what distinguishes it from other files, if the system knows, or why it isn't read
abbrev pub Finding : Type 0
Finding = Result (Option Identity) FileFault

-- what distinguishes a file, as a finding
abbrev pub known_file : Result Identity FileFault → Finding
known_file (Ok file) = Ok (Some file)
known_file (Err f) = Err f

-- what a name that is read is found to be, if that is known: standard input, or a file
abbrev pub read_as : Shelf → List ℕ → Option Finding
read_as shelf name =
    if is_standard_input name then option_map (λ file. Ok file) shelf.standard_input else option_map known_file (shelf.readable name)

-- nothing distinguishes two files
abbrev pub is_same : Option Identity → Option Identity → Bool
is_same None None = true
is_same (Some file) (Some other) = (file.device == other.device) && (file.number == other.number)
is_same file other = false

-- why a file isn't read, given the files before it: what is found of it, or that one of those is the same file
abbrev pub refusal_after : List (Option Identity) → Finding → Option FileRefusal
refusal_after before (Err f) = Some (record { file = place.Read (length before); fault = f })
refusal_after before (Ok file) =
    if list_any (is_same file) before
    then Some (record { file = place.Read (length before); fault = fault.ReadAlready (position_or_len (is_same file) before) })
    else None

-- these files have the names, one by one, and nothing is found against any of them
pub record AreTaken (shelf : Shelf) (names : List (List ℕ)) (files : List (Option Identity)) : Type 0 where
  pub found : AllZip (λ name file. IsFound (read_as shelf name) (Ok file)) names files
  pub fine : first_fault (λ before file. refusal_after before (Ok file)) [] files ≡ None

-- the first of the names that are read against which something is found, and what
pub record IsFirstRefused (shelf : Shelf) (names : List (List ℕ)) (r : FileRefusal) : Type 0 where
  pub first : List (List ℕ)
  pub next : List ℕ
  pub others : List (List ℕ)
  pub names_are : names ≡ first ++ next ∷ others
  pub files : List (Option Identity)
  pub taken : AreTaken shelf first files
  pub finding : Finding
  pub found : IsFound (read_as shelf next) finding
  pub refused : refusal_after files finding ≡ Some r

-- the names of what is read: without any, standard input is
abbrev pub names_read : List (List ℕ) → List (List ℕ)
names_read [] = codes "-" ∷ []
names_read names = names

-- what is found of the file that is written, given the files that are read: nothing against it, or a fault
pub data FindsWritten (shelf : Shelf) (read : List (Option Identity)) (name : List ℕ) : Option FileFault → Type 0 where
  -- it is standard output
  standard : is_standard_output name ≡ true → FindsWritten shelf read name None
  -- what has its name can't be replaced
  unreplaced : (f : FileFault) → is_standard_output name ≡ false → IsFound (shelf.replaced name) (Err f) → FindsWritten shelf read name (Some f)
  -- there is no file yet
  absent : is_standard_output name ≡ false → IsFound (shelf.replaced name) (Ok None) → FindsWritten shelf read name None
  -- it is one of those that are read
  read_too : (file : Identity) → is_standard_output name ≡ false → IsFound (shelf.replaced name) (Ok (Some file))
      → list_any (is_same (Some file)) read ≡ true → FindsWritten shelf read name (Some fault.ReadToo)
  -- it is none of those, and may be written or not
  present : (file : Identity) → (rights : Result (Unit {0}) FileFault) → is_standard_output name ≡ false
      → IsFound (shelf.replaced name) (Ok (Some file)) → list_any (is_same (Some file)) read ≡ false → IsFound (shelf.rights name) rights
      → FindsWritten shelf read name (result_err rights)

-- what is found of the file that is written, where one is
abbrev pub FindsOutput : Shelf → List (Option Identity) → Option (List ℕ) → Option FileFault → Type 0
FindsOutput shelf read None f = f ≡ None
FindsOutput shelf read (Some name) f = FindsWritten shelf read name f

-- nothing is found against the files that are read, nor against the one that is written
pub record FindsNothing (shelf : Shelf) (names : List (List ℕ)) (output : Option (List ℕ)) : Type 0 where
  pub files : List (Option Identity)
  pub taken : AreTaken shelf (names_read names) files
  pub written : FindsOutput shelf files output None

-- what is found against the first file against which something is
pub data FindsAgainst (shelf : Shelf) (names : List (List ℕ)) (output : Option (List ℕ)) : FileRefusal → Type 0 where
  -- a file that is read
  by_read : (r : FileRefusal) → IsFirstRefused shelf (names_read names) r → FindsAgainst shelf names output r
  -- none of those, but the file that is written
  by_written : (f : FileFault) → (files : List (Option Identity)) → AreTaken shelf (names_read names) files
      → FindsOutput shelf files output (Some f) → FindsAgainst shelf names output (record { file = place.Written; fault = f })
  -- or memory is short
  by_memory : (r : FileRefusal) → r.fault ≡ fault.OutOfMemory → FindsAgainst shelf names output r
