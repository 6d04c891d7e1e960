-- What a run leaves of its input and its output.
use Rattle.std.specs.Prelude.{◌≡◌, ◌≢◌, ◌⊎◌, ◌<◌, ℕ, ⊤, List, Option, None, Some, IsErr, IsOk, IsSome, Ok, Err, codes, length, true}
use Rattle.auction_input.specs.Input.{Input}
use Rattle.byte_sinks.specs.Sinks.{GoesWhole, Outlet}
use Rattle.auction_input.specs.PartCounts.{parsed_taken}
use Rattle.auction_input.specs.Line.{Puts, line}
use Rattle.auction_input.specs.FileLooks.{FindsNothing, FindsAgainst}
use Rattle.auction_input.specs.FileTexts.{IsFound, IsInputRead, IsUnread, Shelf, sent_to}
use Rattle.auction_input.specs.declared.files.FileFault.{FileFault}
use Rattle.auction_input.specs.declared.files.FilePlace.TheVariants as place
use Rattle.auction_input.specs.declared.files.FileRefusal.{FileRefusal}
use Rattle.auction_input.specs.declared.input.Unread.{Unread}
use Rattle.answers.specs.FileLines.{refusal_line, unread_line}
use Rattle.auction_input.specs.declared.refusal.Refusal.{Refusal}
use Rattle.auction_input.specs.declared.refusal.Refusal.TheVariants as refusal
use Rattle.auction_input.specs.Requests.{target_of}
use Rattle.auction_input.specs.declared.request.ExplainOptions.{ExplainOptions}
use Rattle.auction_input.specs.declared.request.Request.{Request}
use Rattle.auction_input.specs.declared.request.Request.TheVariants.{Explain}
use Rattle.input_faults.specs.Explained.{IsCutShort}
use Rattle.input_faults.specs.FaultLines.{explanation}
use Rattle.input_faults.specs.PlacedText.{placed_line}
use Rattle.answers.specs.Answer.{answer}
use Rattle.answers.specs.ExplainedFor.{IsRefusedBy, IsTakenBy}
use Rattle.answers.specs.Asked.{Asked, CommandLine, for_answer, for_help, for_nothing, for_version}
use Rattle.answers.specs.Exact.{Ends, IsUnwritten, Writes}
use Rattle.answers.specs.Outside.{Outside}

-- what a command line names was read, by the contents of files, and the last form of a bidder counts where the command line says so
abbrev pub Reads : Shelf → CommandLine → Option (List ℕ) → Option (List ℕ) → Input → Type 0
Reads shelf asked left left' input = IsInputRead shelf.content asked.files left left' input.texts × (input.last_wins ≡ asked.last_wins)

-- where `explain` finds no fault, the command that it names doesn't refuse the input for its parts
abbrev pub IsTakenFor : Request → Input → Type 0
IsTakenFor (Explain options) input = IsTakenBy options.target input
IsTakenFor asked input = ⊤

-- the sink of the output as an answer begins: sent to the file that is named, where one is
abbrev pub begun : Option (List ℕ) → Outlet → Outlet
begun None sink = sink
begun (Some name) sink = sent_to name sink

-- files are named, to be read or to be written
abbrev pub NamesFiles : CommandLine → Type 0
NamesFiles asked = (0 < length asked.files) ⊎ IsSome asked.output

-- the files that are named were looked at, and nothing was found against them
abbrev pub HasLooked : Shelf → CommandLine → Type 0
HasLooked shelf asked = NamesFiles asked → FindsNothing shelf asked.files asked.output

-- the input was read, and what was asked for is written
abbrev pub IsAnswered : Shelf → CommandLine → Outside → Outside → Type 0
IsAnswered shelf asked before after =
    HasLooked shelf asked × ((input : Input) × Reads shelf asked before.left after.left input × IsTakenFor asked.request input
    × Writes (answer asked.request input) (begun asked.output before.output) after.output)

-- an answer, or the first refusal in its place, is what the request asks of the input; `explain` only of one without a fault, and where bids are asked for
abbrev pub AsksAnswer : Request → Input → Type 0
AsksAnswer (Explain options) input = (options.bids ≡ true) × IsOk (parsed_taken (Explain options) input)
AsksAnswer asked input = ⊤

-- why a command line isn't answered, by the line that says it
pub data IsRefused (shelf : Shelf) (asked : CommandLine) (before after : Outside) : List ℕ → Type 0 where
  -- the look at the files finds something against one of them, the first; nothing is read, and nothing written
  by_look : (r : FileRefusal) → NamesFiles asked → FindsAgainst shelf asked.files asked.output r → after.left ≡ before.left → after.output ≡ before.output
      → IsRefused shelf asked before after (refusal_line asked r)
  -- it finds nothing, but the file that is to be written can't be opened, and this is why; nothing is read, and nothing written
  by_output : (name : List ℕ) → (fault : FileFault) → asked.output ≡ Some name → IsFound (before.sendable name) (Err fault) → HasLooked shelf asked
      → after.left ≡ before.left → after.output ≡ before.output
      → IsRefused shelf asked before after (refusal_line asked (record { file = place.Written; fault = fault }))
  -- not all of the input is read, and nothing is written
  by_input : (f : Unread) → HasLooked shelf asked → IsUnread shelf asked.files f before.left after.left before.failed_reads after.failed_reads
      → after.output ≡ begun asked.output before.output → IsRefused shelf asked before after (unread_line asked f)
  -- the answer that is asked of what was read isn't written
  by_text : {r : Refusal} → HasLooked shelf asked → (input : Input) → Reads shelf asked before.left after.left input → AsksAnswer asked.request input
      → IsUnwritten asked.request input (begun asked.output before.output) after.output r
      → IsRefused shelf asked before after (placed_line input.texts r)
  -- not all lines of the faults of what was read are written
  by_lines : {r : Refusal} → (options : ExplainOptions) → asked.request ≡ Explain options → HasLooked shelf asked → (input : Input)
      → Reads shelf asked before.left after.left input
      → IsCutShort (explanation asked.request input) (begun asked.output before.output) after.output r
      → IsRefused shelf asked before after (placed_line input.texts r)

-- what goes out without an input: a text of help, which isn't empty, or the version
abbrev pub IsShown : Asked → List ℕ → Type 0
IsShown for_help text = 0 < length text
IsShown for_version text = text ≡ codes "wdp 2.0.0\n"
IsShown asked text = ⊥

-- what is asked for is answered; or help or the version, which is asked for, went out, and nothing was read
abbrev pub IsDone : Shelf → Asked → Outside → Outside → Type 0
IsDone shelf asked before after =
    ((command : CommandLine) × (asked ≡ for_answer command) × IsAnswered shelf command before after)
    ⊎ ((text : List ℕ) × IsShown asked text × (after.left ≡ before.left) × GoesWhole before.output after.output text)

-- why a run is refused, by the line that says it: what is asked for is; or help or the version, which is asked for, could not be written;
-- or memory was short before anything was read
pub data IsUndone (shelf : Shelf) (asked : Asked) (before after : Outside) : List ℕ → Type 0 where
  by_request : {parsed : List ℕ} → (command : CommandLine) → asked ≡ for_answer command → IsRefused shelf command before after parsed
      → IsUndone shelf asked before after parsed
  by_showing : {r : Refusal} → (text : List ℕ) → IsShown asked text → after.left ≡ before.left → Ends (Ok text) before.output after.output r
      → IsUndone shelf asked before after (line r)
  by_memory : after.left ≡ before.left → after.output ≡ before.output → IsUndone shelf asked before after (line refusal.OutOfMemory)

-- `explain` is asked for, and the input was read; it describes no auction, or one that hasn't got what the command that is named wants, and
-- that command refuses it, too; the lines of its faults are written, no read and no put fails, and no line of a refusal is put
pub record HasExplained (shelf : Shelf) (asked : Asked) (before after : Outside) : Type 0 where
  pub command : CommandLine
  pub options : ExplainOptions
  pub input : Input
  pub asks : asked ≡ for_answer command
  pub explains : command.request ≡ Explain options
  pub looked : HasLooked shelf command
  pub read : Reads shelf command before.left after.left input
  pub faulty : IsErr (parsed_taken command.request input)
  pub refused : IsRefusedBy (target_of command.request) input
  pub written : GoesWhole (begun command.output before.output) after.output (explanation command.request input)
  pub reads : after.failed_reads ≡ before.failed_reads
  pub quiet : after.faults ≡ before.faults

-- what a run leaves of the outside, by its exit status
pub record IsRun (shelf : Shelf) (asked : Asked) (status : ℕ) (before after : Outside) : Type 0 where
  -- 0: what is asked for is done, and no fault is reported
  pub done : status ≡ 0 → IsDone shelf asked before after
  pub quiet : status ≡ 0 → after.faults ≡ before.faults
  -- 0 or 2: no read and no put of the output failed
  pub succeeded : status ≢ 1 → (after.output.failures ≡ before.output.failures) × (after.failed_reads ≡ before.failed_reads)
  -- 1: it isn't done, and the line that says why is put; or `explain` printed faults
  pub refused : status ≡ 1 → ((parsed : List ℕ) × IsUndone shelf asked before after parsed × Puts parsed before.faults after.faults) ⊎ HasExplained shelf asked before after
  -- 2: the words ask for nothing, nothing is read or written, and a text that isn't empty is put among the faults
  pub unasked : status ≡ 2 → (asked ≡ for_nothing) × (after.left ≡ before.left) × (after.output ≡ before.output)
  pub reported : status ≡ 2 → (text : List ℕ) × (0 < length text)
      × Puts text before.faults after.faults
