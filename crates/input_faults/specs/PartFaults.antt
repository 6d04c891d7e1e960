-- The faults of the parts of an input, and of their numbers, each with what is wrong in words.
use Rattle.std.specs.Prelude.{◌++◌, ◌∷◌, ℕ, List, [], Option, None, Some, codes, decimal, length, slice_index_or}
use Rattle.auction_input.specs.Input.{NamedText}
use Rattle.auction_input.specs.Line.{of_version_1}
use Rattle.auction_input.specs.Parts.{Part, name_of, parts_named}
use Rattle.auction_input.specs.Places.{spot_of}
use Rattle.auction_input.specs.Requests.{target_of}
use Rattle.auction_input.specs.declared.part_kind.PartKind.{PartKind}
use Rattle.auction_input.specs.declared.part_kind.PartKind.TheVariants as part
use Rattle.auction_input.specs.declared.parts.PartFault.{PartFault}
use Rattle.auction_input.specs.declared.parts.PartFault.TheVariants as parts
use Rattle.auction_input.specs.declared.places.Spot.{Spot}
use Rattle.auction_input.specs.declared.refusal.Refusal.TheVariants as refusal
use Rattle.auction_input.specs.declared.request.Request.{Request}
use Rattle.auction_input.specs.declared.request.Target.{Target}
use Rattle.auction_input.specs.declared.request.Target.TheVariants as target
use Rattle.auction_input.specs.declared.part_counts.Unmet.{Unmet}
use Rattle.auction_input.specs.declared.part_counts.Unmet.TheVariants as unmet
use Rattle.auction_terms.specs.Judged.{Fault as Judged, fault_at, fault_of_whole}
use Rattle.auction_terms.specs.Lines.{lines_of}
use Rattle.input_faults.specs.declared.fault.Fault.{Fault}
use Rattle.input_faults.specs.declared.fault.Fault.TheVariants as fault

-- the bytes of the text at a place, from 0
abbrev pub bytes_at : List NamedText → ℕ → List ℕ
bytes_at texts n = (slice_index_or texts n (record { name = []; bytes = [] })).bytes

-- the bytes of the text in which a refusal's spot is, or of the first text if no spot is known
abbrev pub text_at : List NamedText → Option Spot → List ℕ
text_at texts None = bytes_at texts 0
text_at texts (Some at) = bytes_at texts at.text

-- the item of a number, counted from 1; where there is none, nothing
abbrev pub numbered : {X : Type 0} → ℕ → List (List X) → List X
numbered n items = slice_index_or ([] ∷ items) n []

-- the first line of the text that has bytes before its first part
abbrev pub beginning : List NamedText → List ℕ
beginning texts = numbered 1 (lines_of (text_at texts (spot_of texts (refusal.Parts parts.BeforeFirst))))

-- the fault of an input that isn't cut into parts
abbrev pub uncut_fault : List NamedText → PartFault → Judged Fault
uncut_fault texts parts.BeforeFirst = fault_at 0 (beginning texts) (fault.Parts parts.BeforeFirst) (codes "has no %rules before it")
uncut_fault texts (parts.PartName n) = fault_of_whole (fault.Parts (parts.PartName n)) None
uncut_fault texts (parts.OfVersion1 n) = fault_of_whole (fault.Parts (parts.OfVersion1 n)) (Some of_version_1)
uncut_fault texts parts.OutOfMemory = fault_of_whole (fault.Parts parts.OutOfMemory) None

-- a kind of which a request takes another number of parts, and that number
abbrev pub wanted_words : Option Target → PartKind → List ℕ
wanted_words command part.Rules = codes " rules in place of 1"
wanted_words (Some target.Text) part.Groups = codes " groups in place of 0"
wanted_words None part.Groups = codes " groups in place of 1 at most"
wanted_words command part.Groups = codes " groups in place of 1"
wanted_words (Some target.Map) part.Solution = codes " solutions in place of 1"
wanted_words command part.Solution = codes " solutions in place of 0"
wanted_words command part.Form = []
wanted_words command part.Certificate = []
wanted_words command part.Unique = []
wanted_words command part.Tie = []
wanted_words command part.Prices = []
wanted_words command part.Cover = []
wanted_words command part.Rule = []

-- the fault of parts of a kind of which a request takes another number: how many there are, and how many it takes
abbrev pub uncounted_fault : Request → List Part → PartKind → Judged Fault
uncounted_fault asked held kind =
    fault_of_whole (fault.PartCount kind) (Some (decimal (length (parts_named (name_of kind) held)) ++ wanted_words (target_of asked) kind))

-- how many parts of a kind there are, and the number that theirs is compared with: that of the groups or of the prices, or the most that may be
abbrev pub pair_words : ℕ → List ℕ → ℕ → List ℕ
pair_words count words by = decimal count ++ (words ++ decimal by)

-- what a command wants of the number of parts of a kind, once the groups are read: as many as groups, one at most, or as many as prices
abbrev pub number_cause : PartKind → ℕ → ℕ → Option (List ℕ)
number_cause part.Solution count by = Some (pair_words count (codes " solutions, and ") by ++ (codes " groups want " ++ decimal by))
number_cause part.Certificate count by = Some (pair_words count (codes " certificates, and ") by ++ (codes " groups want " ++ decimal by))
number_cause part.Unique count by = Some (decimal count ++ codes " uniques in place of 1 at most")
number_cause part.Tie count by = Some (pair_words count (codes " ties in place of ") by ++ codes " at most")
number_cause part.Prices count by = Some (decimal count ++ codes " prices in place of 1 at most")
number_cause part.Cover count by = Some (pair_words count (codes " covers, and ") by ++ (codes " prices want " ++ decimal by))
number_cause part.Rule count by = Some (pair_words count (codes " price rules, and ") by ++ (codes " prices want " ++ (decimal by ++ codes " at most")))
number_cause part.Rules count by = None
number_cause part.Form count by = None
number_cause part.Groups count by = None

-- what is wrong where a command wants something else, in words
abbrev pub unmet_cause : Unmet → Option (List ℕ)
unmet_cause unmet.FirstGroupNotEmpty = None
unmet_cause (unmet.Number kind count by) = number_cause kind count by

-- the fault of an input that hasn't got what a command wants
abbrev pub unmet_fault : Unmet → Judged Fault
unmet_fault u = fault_of_whole (fault.Unmet u) (unmet_cause u)
