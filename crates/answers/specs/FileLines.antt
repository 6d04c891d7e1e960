-- The line that says why a file of a command line isn't read, or not written.
use Rattle.std.specs.Prelude.{◌++◌, ◌∷◌, ℕ, List, [], codes, slice_index_or}
use Rattle.std.specs.Option.{option_map_or}
use Rattle.auction_input.specs.FileWords.{fault_words}
use Rattle.auction_input.specs.Line.{line}
use Rattle.auction_input.specs.declared.files.FileFault.{FileFault}
use Rattle.auction_input.specs.declared.files.FileFault.TheVariants as fault
use Rattle.auction_input.specs.declared.files.FilePlace.{FilePlace}
use Rattle.auction_input.specs.declared.files.FilePlace.TheVariants as place
use Rattle.auction_input.specs.declared.files.FileRefusal.{FileRefusal}
use Rattle.auction_input.specs.declared.input.Unread.{Unread}
use Rattle.auction_input.specs.declared.input.Unread.TheVariants as unread
use Rattle.auction_input.specs.declared.refusal.Refusal.TheVariants as refusal
use Rattle.input_faults.specs.FileNames.{shown_name}
use Rattle.answers.specs.Asked.{CommandLine}

-- the name of a file of a command line
abbrev pub name_at : CommandLine → FilePlace → List ℕ
name_at command (place.Read n) = slice_index_or command.files n []
name_at command place.Written = option_map_or (λ name. name) command.output []

-- for a file that is named twice, its first name; else no name
abbrev pub other_file : CommandLine → FileFault → List ℕ
other_file command (fault.ReadAlready n) = slice_index_or command.files n []
other_file command f = []

-- why a file isn't read or written, with the first name of one that is named twice
abbrev pub words_with : FileFault → List ℕ → List ℕ
words_with (fault.ReadAlready n) other = fault_words (fault.ReadAlready n) ++ shown_name other
words_with f other = fault_words f

-- the words of a refusal of the file that has this name; where memory was short, that alone
abbrev pub file_text : List ℕ → FileFault → List ℕ → List ℕ
file_text name fault.OutOfMemory other = codes "out of memory"
file_text name f other = shown_name name ++ (codes ": " ++ words_with f other)

-- the whole line of such a refusal
abbrev pub file_line : List ℕ → FileFault → List ℕ → List ℕ
file_line name f other = codes "wdp: " ++ (file_text name f other ++ 10 ∷ [])

-- the line that refuses a file of a command line
abbrev pub refusal_line : CommandLine → FileRefusal → List ℕ
refusal_line command r = file_line (name_at command r.file) r.fault (other_file command r.fault)

-- the line that says why the input wasn't read: the input itself is refused, or a file that the command line names
abbrev pub unread_line : CommandLine → Unread → List ℕ
unread_line command (unread.Input f) = line (refusal.Input f)
unread_line command (unread.File r) = refusal_line command r
