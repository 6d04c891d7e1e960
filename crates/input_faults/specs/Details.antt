-- What is reported of a fault after its refusal: at which field or name it is, what is there, and what is wrong with it.
use Rattle.std.specs.Prelude.{◌++◌, ◌==◌, ℕ, List, [], codes, decimal, if◌then◌else◌}
use Rattle.std.specs.Option.{option_map_or}
use Rattle.auction_input.specs.declared.parts.PartFault.{PartFault}
use Rattle.auction_input.specs.declared.parts.PartFault.TheVariants as parts
use Rattle.auction_terms.specs.Judged.{Fault as Judged}
use Rattle.input_faults.specs.Shown.{shown_text}
use Rattle.input_faults.specs.declared.fault.Fault.{Fault}
use Rattle.input_faults.specs.declared.fault.Fault.TheVariants as fault

-- words and the number of a field or name after them, what is there, and what is wrong with it
abbrev pub place_message : List ℕ → ℕ → List ℕ → List ℕ → List ℕ
place_message words n text cause = words ++ (decimal n ++ (codes ": " ++ (shown_text text ++ (codes " " ++ cause))))

-- what is wrong with what is at a field or name, or (0) with a whole record or line
abbrev pub cause_message : List ℕ → ℕ → List ℕ → List ℕ → List ℕ
cause_message words n text cause = if n == 0 then codes ": " ++ cause else place_message words n text cause

-- the first line, where it heads no part, and what is wrong with it
abbrev pub beginning_message : List ℕ → List ℕ → List ℕ
beginning_message line cause = codes ": the text begins with " ++ (shown_text line ++ (codes " and " ++ cause))

-- an input that isn't cut into parts: its first line, where that is wrong; the refusal says what else may be
abbrev pub uncut_detail : List ℕ → PartFault → List ℕ → List ℕ
uncut_detail line parts.BeforeFirst cause = beginning_message line cause
uncut_detail line (parts.PartName n) cause = []
uncut_detail line (parts.OfVersion1 n) cause = []
uncut_detail line parts.OutOfMemory cause = []

-- what is wrong, in words that suit the fault
abbrev pub detail_by : Judged Fault → Fault → List ℕ → List ℕ
detail_by at (fault.Parts f) cause = uncut_detail at.text f cause
detail_by at (fault.Groups f) cause = cause_message (codes ", name ") at.field at.text cause
detail_by at (fault.PartCount kind) cause = cause_message (codes ", field ") at.field at.text cause
detail_by at (fault.Rules f) cause = cause_message (codes ", field ") at.field at.text cause
detail_by at (fault.Form number f) cause = cause_message (codes ", field ") at.field at.text cause
detail_by at (fault.AnotherForm f) cause = cause_message (codes ", field ") at.field at.text cause
detail_by at (fault.CallLimit number) cause = cause_message (codes ", field ") at.field at.text cause
detail_by at (fault.Unmet u) cause = cause_message (codes ", field ") at.field at.text cause

-- the detail of a fault, if there are words for what is wrong
abbrev pub detail : Judged Fault → List ℕ
detail at = option_map_or (detail_by at at.fault) at.cause []
