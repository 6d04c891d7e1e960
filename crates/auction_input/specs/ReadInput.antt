-- What was read of an input.
use Rattle.std.specs.Prelude.{◌≡◌, ◌≤◌, ◌+◌, ℕ, List, Option, length}
use Rattle.std.specs.Io.KnownBytes.{Consumes, IsAtEnd}
use Rattle.auction_input.specs.declared.input.InputFault.TheVariants as fault
use Rattle.auction_input.specs.declared.input.InputFault.{InputFault}
use Rattle.byte_sinks.specs.Sinks.{HasFailed}

-- a text was read to its end, and has at most this many bytes
abbrev pub IsWhole : ℕ → Option (List ℕ) → Option (List ℕ) → List ℕ → Type 0
IsWhole limit left left' text = (length text ≤ limit) × Consumes left left' text × IsAtEnd left'

-- what was read of a text that isn't taken: of one that is too large, one byte above the limit; else at most as much. The counts of failed
-- reads before and after rise where that is the fault, and stay where it isn't
abbrev pub IsUntaken : ℕ → InputFault → Option (List ℕ) → Option (List ℕ) → ℕ → ℕ → Type 0
IsUntaken limit fault.TooLarge left left' reads reads' = (reads' ≡ reads) × ((front : List ℕ) × Consumes left left' front × (length front ≡ limit + 1))
IsUntaken limit fault.ReadFailed left left' reads reads' = HasFailed reads reads' × ((front : List ℕ) × Consumes left left' front × (length front ≤ limit + 1))
IsUntaken limit fault.OutOfMemory left left' reads reads' = (reads' ≡ reads) × ((front : List ℕ) × Consumes left left' front × (length front ≤ limit + 1))
