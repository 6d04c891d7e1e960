-- The object of JSON that tells a fault.
use Rattle.std.specs.Prelude.{◌++◌, ◌==◌, ℕ, List, [], Option, None, Some, codes, flat_map, if◌then◌else◌, length, nat_lt, option_map, take}
use Rattle.auction_input.specs.Input.{NamedText}
use Rattle.auction_input.specs.Line.{before_first, wrong_number}
use Rattle.auction_input.specs.Places.{spot_of}
use Rattle.auction_input.specs.declared.parts.PartFault.{PartFault}
use Rattle.auction_input.specs.declared.parts.PartFault.TheVariants as parts
use Rattle.auction_input.specs.declared.places.Spot.{Spot}
use Rattle.auction_input.specs.declared.part_counts.Unmet.TheVariants as unmet
use Rattle.auction_terms.specs.GroupFaultText.{group_code, group_place}
use Rattle.auction_terms.specs.Judged.{Fault as Judged}
use Rattle.auction_terms.specs.RulesFaultText.{rules_code, rules_place}
use Rattle.auction_terms.specs.Wording.{FaultCode}
use Rattle.bid_forms.specs.FormFaultText.{earlier_bid, form_code, form_place}
use Rattle.bid_forms.specs.declared.form_text.FormFault.{FormFault}
use Rattle.byte_sinks.specs.Json.{member_name, number_member, text_member}
use Rattle.input_faults.specs.FileNames.{shown_name}
use Rattle.input_faults.specs.InputFaults.{refusal_of}
use Rattle.input_faults.specs.PlacedText.{file_name}
use Rattle.input_faults.specs.Shown.{shown_byte}
use Rattle.input_faults.specs.declared.fault.Fault.{Fault}
use Rattle.input_faults.specs.declared.fault.Fault.TheVariants as fault

-- a member after others, whose value is a string
abbrev pub next_text : List ℕ → List ℕ → List ℕ
next_text name text = text_member (codes ", ") name text

-- a member after others, whose value is a number
abbrev pub next_number : List ℕ → ℕ → List ℕ
next_number name n = number_member (codes ", ") name n

-- a member after others, whose value is a number, if it has one
abbrev pub next_number_if : List ℕ → Option ℕ → List ℕ
next_number_if name None = []
next_number_if name (Some n) = next_number name n

-- the first member: the name of the file that the fault is in, or null, where no file is named
abbrev pub file_member : List NamedText → Option Spot → List ℕ
file_member texts None = member_name (codes "{") (codes "file") ++ codes "null"
file_member texts (Some at) = text_member (codes "{") (codes "file") (shown_name (file_name texts at.text))

-- the number of a part among those of its file, where it has a spot in one
abbrev pub number_in_file : Option Spot → ℕ → ℕ
number_in_file None n = n
number_in_file (Some at) n = at.number

-- the part that a fault is of
abbrev pub part_of : Fault → List ℕ
part_of (fault.Parts f) = codes "input"
part_of (fault.PartCount kind) = codes "input"
part_of (fault.Rules f) = codes "rules"
part_of (fault.Form n f) = codes "form"
part_of (fault.AnotherForm f) = codes "form"
part_of (fault.Groups f) = codes "groups"
part_of (fault.CallLimit n) = codes "form"
part_of (fault.Unmet unmet.FirstGroupNotEmpty) = codes "groups"
part_of (fault.Unmet (unmet.Number kind count by)) = codes "input"

-- the number of the form, or of the part that isn't known, among those of all files
abbrev pub part_number : Fault → Option ℕ
part_number (fault.Parts parts.BeforeFirst) = None
part_number (fault.Parts (parts.PartName n)) = Some n
part_number (fault.Parts (parts.OfVersion1 n)) = Some n
part_number (fault.Parts parts.OutOfMemory) = None
part_number (fault.PartCount kind) = None
part_number (fault.Rules f) = None
part_number (fault.Form n f) = Some n
part_number (fault.AnotherForm f) = Some f.form
part_number (fault.Groups f) = None
part_number (fault.CallLimit n) = Some n
part_number (fault.Unmet u) = None

-- the part that a fault is of, with its number, if it has one
abbrev pub part_members : Option Spot → Fault → List ℕ
part_members spot f = next_text (codes "part") (part_of f) ++ next_number_if (codes "number") (option_map (number_in_file spot) (part_number f))

-- the name of a fault, and its number; a fault without a code is that memory was refused
abbrev pub code_members : Option FaultCode → List ℕ
code_members None = next_text (codes "fault") (codes "out of memory")
code_members (Some code) = next_text (codes "fault") code.name ++ next_number (codes "code") code.number

-- the name of the fault of an input that isn't cut into parts
abbrev pub uncut_name : PartFault → List ℕ
uncut_name parts.BeforeFirst = before_first
uncut_name (parts.PartName n) = codes "part not known"
uncut_name (parts.OfVersion1 n) = codes "part not known"
uncut_name parts.OutOfMemory = codes "out of memory"

-- the name of the fault of a form, its number, the record, and an earlier bid
abbrev pub form_fault_members : FormFault → List ℕ
form_fault_members f =
    (code_members (form_code f) ++ next_number_if (codes "record") (form_place f)) ++ next_number_if (codes "earlier_bid") (earlier_bid f)

-- the name of a fault, its number, if it has one, the record or line, and an earlier bid
abbrev pub named_members : Fault → List ℕ
named_members (fault.Parts f) = next_text (codes "fault") (uncut_name f)
named_members (fault.PartCount kind) = next_text (codes "fault") (wrong_number kind)
named_members (fault.Rules f) = code_members (rules_code f) ++ next_number_if (codes "record") (rules_place f)
named_members (fault.Form n f) = form_fault_members f
named_members (fault.AnotherForm f) = next_text (codes "fault") (codes "another form")
named_members (fault.Groups f) = code_members (group_code f) ++ next_number_if (codes "line") (group_place f)
named_members (fault.CallLimit n) = next_text (codes "fault") (codes "CallLimit")
named_members (fault.Unmet unmet.FirstGroupNotEmpty) = next_text (codes "fault") (codes "group 1 is not empty")
named_members (fault.Unmet (unmet.Number kind count by)) = next_text (codes "fault") (wrong_number kind)

-- whose form is in which other file, where a fault is about that
abbrev pub other_members : List NamedText → Fault → List ℕ
other_members texts (fault.AnotherForm f) = next_text (codes "bidder") f.bidder ++ next_text (codes "other_file") (shown_name (file_name texts f.first_text))
other_members texts (fault.Parts f) = []
other_members texts (fault.PartCount kind) = []
other_members texts (fault.Rules f) = []
other_members texts (fault.Form n f) = []
other_members texts (fault.Groups f) = []
other_members texts (fault.CallLimit n) = []
other_members texts (fault.Unmet u) = []

-- whether there are more than 40 bytes
abbrev pub cut_member : List ℕ → List ℕ
cut_member text = if nat_lt 40 (length text) then member_name (codes ", ") (codes "cut") ++ codes "true" else []

-- what is found: the first 40 bytes, and whether there are more
abbrev pub found_members : List ℕ → List ℕ
found_members text = next_text (codes "found") (flat_map shown_byte (take 40 text)) ++ cut_member text

-- the number of a field or name, and what is there; 0 is that of a whole record or line
abbrev pub field_members : List ℕ → ℕ → List ℕ → List ℕ
field_members name n text = if n == 0 then [] else next_number name n ++ found_members text

-- what a fault is about: the first line of a text, or what is at a field or name
abbrev pub place_members : Judged Fault → Fault → List ℕ
place_members at (fault.Parts parts.BeforeFirst) = found_members at.text
place_members at (fault.Parts (parts.PartName n)) = []
place_members at (fault.Parts (parts.OfVersion1 n)) = []
place_members at (fault.Parts parts.OutOfMemory) = []
place_members at (fault.Groups f) = field_members (codes "name") at.field at.text
place_members at (fault.PartCount kind) = field_members (codes "field") at.field at.text
place_members at (fault.Rules f) = field_members (codes "field") at.field at.text
place_members at (fault.Form n f) = field_members (codes "field") at.field at.text
place_members at (fault.AnotherForm f) = field_members (codes "field") at.field at.text
place_members at (fault.CallLimit n) = field_members (codes "field") at.field at.text
place_members at (fault.Unmet u) = field_members (codes "field") at.field at.text

-- what is wrong, if there are words for it
abbrev pub cause_member : Option (List ℕ) → List ℕ
cause_member None = []
cause_member (Some cause) = next_text (codes "cause") cause

-- the object of a fault that is at this spot, on a line of its own
abbrev pub object_at : List NamedText → Option Spot → Judged Fault → List ℕ
object_at texts spot at =
    file_member texts spot ++ (part_members spot at.fault ++ (named_members at.fault ++ (other_members texts at.fault ++
    (place_members at at.fault ++ (cause_member at.cause ++ codes "}\n")))))

-- the object of a fault of these texts
abbrev pub fault_object : List NamedText → Judged Fault → List ℕ
fault_object texts at = object_at texts (spot_of texts (refusal_of at.fault)) at
