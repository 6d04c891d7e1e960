-- What a run leaves of its output where its words ask for no answer, and how its refusal is reported.
use Rattle.std.specs.Prelude.{◌≡◌, ◌⊎◌, ℕ, IsErr, List, Option, Result, Some, Ok, Err}
use Rattle.auction_input.specs.FileLooks.{FindsAgainst}
use Rattle.auction_input.specs.FileTexts.{IsFound, Shelf}
use Rattle.auction_input.specs.declared.files.FileFault.{FileFault}
use Rattle.auction_input.specs.declared.files.FilePlace.TheVariants as place
use Rattle.auction_input.specs.declared.files.FileRefusal.{FileRefusal}
use Rattle.auction_input.specs.PartCounts.{parsed_taken}
use Rattle.auction_input.specs.Input.{Input}
use Rattle.auction_input.specs.Line.{Puts, line}
use Rattle.auction_input.specs.declared.refusal.Refusal.{Refusal}
use Rattle.auction_input.specs.declared.refusal.Refusal.TheVariants as refusal
use Rattle.input_faults.specs.Explained.{IsCutShort}
use Rattle.input_faults.specs.FaultLines.{explanation}
use Rattle.input_faults.specs.PlacedText.{placed_line}
use Rattle.answers.specs.Asked.{Asked, CommandLine}
use Rattle.auction_input.specs.declared.request.ExplainOptions.{ExplainOptions}
use Rattle.auction_input.specs.declared.request.Request.{Request}
use Rattle.auction_input.specs.declared.request.Request.TheVariants.{Explain}
use Rattle.answers.specs.Exact.{Ends, IsUnwritten}
use Rattle.byte_sinks.specs.Sinks.{GoesWhole, Outlet}
use Rattle.answers.specs.Runs.{AsksAnswer, HasLooked, IsShown, NamesFiles}

-- why the files of a command line aren't there to be read or to be written, by what sending the output to a file finds
abbrev pub IsUnprepared : Shelf → (List ℕ → Option (Result (Unit {0}) FileFault)) → CommandLine → FileRefusal → Type 0
IsUnprepared shelf sendable asked r =
    (NamesFiles asked × FindsAgainst shelf asked.files asked.output r)
    ⊎ ((name : List ℕ) × (fault : FileFault) × (asked.output ≡ Some name) × IsFound (sendable name) (Err fault) × HasLooked shelf asked
    × (r ≡ record { file = place.Written; fault = fault }))

-- help or the version, which is asked for, went out
abbrev pub HasShown : Asked → Outlet → Outlet → Type 0
HasShown asked before after = (text : List ℕ) × IsShown asked text × GoesWhole before after text

-- why they didn't: they could not be written, or memory was short
abbrev pub IsUnreported : Asked → Outlet → Outlet → Refusal → Type 0
IsUnreported asked before after r =
    ((text : List ℕ) × IsShown asked text × Ends (Ok text) before after r) ⊎ ((r ≡ refusal.OutOfMemory) × (after ≡ before))

-- a refusal for this reason is reported by its line
abbrev pub IsReported : (Refusal → Type 0) → Outlet → Outlet → Type 0
IsReported Why before after = (r : Refusal) × Why r × Puts (line r) before after

-- the line that says why
abbrev pub IsReportedSo : (List ℕ → Type 0) → Outlet → Outlet → Type 0
IsReportedSo Why before after = (parsed : List ℕ) × Why parsed × Puts parsed before after

-- why what is asked for of an input isn't written, or not all lines of its faults, by the line that says it
abbrev pub IsLeftUnanswered : Request → Input → Outlet → Outlet → List ℕ → Type 0
IsLeftUnanswered asked input before after parsed =
    (r : Refusal) × (parsed ≡ placed_line input.texts r)
    × ((AsksAnswer asked input × IsUnwritten asked input before after r) ⊎
    ((options : ExplainOptions) × (asked ≡ Explain options) × IsCutShort (explanation asked input) before after r))

-- `explain` is asked for, an input with faults is explained, and no put fails
abbrev pub HasExplainedInput : Request → Input → Outlet → Outlet → Type 0
HasExplainedInput asked input before after =
    (options : ExplainOptions) × (asked ≡ Explain options) × IsErr (parsed_taken asked input) × GoesWhole before after (explanation asked input)
