-- The lines that print all faults of an input.
use Rattle.std.specs.Prelude.{◌-◌, ◌^◌, ◌==◌, ◌++◌, ◌∷◌, ℕ, List, [], codes, decimal, flat_map, if◌then◌else◌, length, min, take}
use Rattle.auction_input.specs.Input.{NamedText, Input}
use Rattle.auction_input.specs.Requests.{format_of}
use Rattle.auction_input.specs.declared.request.Request.{Request}
use Rattle.auction_terms.specs.Judged.{Fault as Judged}
use Rattle.auction_terms.specs.declared.limits.TheConstants.{MOST_FAULTS}
use Rattle.byte_sinks.specs.Json.{number_member}
use Rattle.byte_sinks.specs.declared.json.Format.{Format}
use Rattle.byte_sinks.specs.declared.json.Format.TheVariants.{Words, Json}
use Rattle.input_faults.specs.Details.{detail}
use Rattle.input_faults.specs.FaultObjects.{fault_object}
use Rattle.input_faults.specs.InputFaults.{input_faults, refusal_of}
use Rattle.input_faults.specs.PlacedText.{message_in}
use Rattle.input_faults.specs.declared.fault.Fault.{Fault}

-- the line of a fault of these texts: what is reported of it, and its detail; or its object
abbrev pub fault_line : Format → List NamedText → Judged Fault → List ℕ
fault_line Words texts at = message_in texts (refusal_of at.fault) ++ (detail at ++ 10 ∷ [])
fault_line Json texts at = fault_object texts at

-- that there are so many more faults
abbrev pub count_line : Format → ℕ → List ℕ
count_line Words more = codes "and " ++ (decimal more ++ codes " more\n")
count_line Json more = number_member (codes "{") (codes "more") more ++ codes "}\n"

-- the line that counts the faults that have none
abbrev pub more_line : Format → ℕ → List ℕ
more_line format more = if more == 0 then [] else count_line format more

-- a line for each of the first faults, and how many more there are, up to 2 ^ 64 - 1
abbrev pub fault_lines : Format → List NamedText → List (Judged Fault) → List ℕ
fault_lines format texts faults =
    flat_map (fault_line format texts) (take MOST_FAULTS faults) ++ more_line format (min (length faults - MOST_FAULTS) (2 ^ 64 - 1))

-- what is reported of an input
abbrev pub explanation : Request → Input → List ℕ
explanation asked input = fault_lines (format_of asked) input.texts (input_faults asked input)
