-- The parts of the input. A line that begins with a percent sign heads a part, whose bytes run up to the next such line.
use Rattle.std.specs.Prelude.{Vec, ◌≡◌, ◌==◌, ◌+◌, ◌++◌, Bool, ⊤, not, ℕ, List, [], ◌∷◌, Option, None, Some, Result, Ok}
use Rattle.std.specs.Prelude.{Err, codes, filter, if◌then◌else◌, length, map, slice_index, slice_index_or}
use Rattle.std.specs.Option.{option_or}
use Rattle.std.specs.List.{list_any}
use Rattle.std.specs.Str.{bytes_eq}
use Rattle.std.specs.declared.alloc.Global.{Global}
use Rattle.auction_input.specs.Input.{NamedText, Input}
use Rattle.auction_input.specs.declared.parts.PartFault.TheVariants as fault
use Rattle.auction_input.specs.declared.parts.PartFault.{PartFault}
use Rattle.auction_input.specs.declared.part_kind.PartKind.TheVariants as kind
use Rattle.auction_input.specs.declared.part_kind.PartKind.{PartKind}
use Rattle.auction_input.specs.declared.parts.Part as declared
use Rattle.auction_input.specs.Requests.{target_of}
use Rattle.auction_input.specs.declared.request.Request.{Request}
use Rattle.auction_input.specs.declared.request.Target.TheVariants as target
use Rattle.auction_input.specs.declared.request.Target.{Target}
use Rattle.auction_terms.specs.FirstFault.{first_fault}
use Rattle.auction_terms.specs.Lines.{is_line_feed, lines_of}

-- lines with one byte more before the first one
abbrev pub onto_first_line : ℕ → List (List ℕ) → List (List ℕ)
onto_first_line b [] = (b ∷ []) ∷ []
onto_first_line b (line ∷ more) = (b ∷ line) ∷ more

-- a text cut after each line feed
abbrev pub cut_lines : List ℕ → List (List ℕ)
cut_lines [] = []
cut_lines (b ∷ rest) = if is_line_feed b then (b ∷ []) ∷ cut_lines rest else onto_first_line b (cut_lines rest)

-- a line that heads a part
abbrev pub heads_part : List ℕ → Bool
heads_part line = slice_index line 0 == 37

-- the number of the text that a part is of, the name in the line that heads it, and the bytes after that line
pub record Part : Type 0 where
  pub text : ℕ
  pub name : List ℕ
  pub bytes : List ℕ

-- the bytes before the first part
abbrev pub bytes_before : List (List ℕ) → List ℕ
bytes_before [] = []
bytes_before (line ∷ more) = if heads_part line then [] else line ++ bytes_before more

-- the parts of the lines of text n
abbrev pub parts_in : ℕ → List (List ℕ) → List Part
parts_in n [] = []
parts_in n (line ∷ more) = if heads_part line then record {
  text = n;
  name = slice_index_or (lines_of line) 0 [];
  bytes = bytes_before more;
} ∷ parts_in n more else parts_in n more

-- the parts of texts, which are numbered from n on; each text is cut by itself
abbrev pub parts_from : ℕ → List NamedText → List Part
parts_from n [] = []
parts_from n (given ∷ more) = parts_in n (cut_lines given.bytes) ++ parts_from (n + 1) more

-- the parts of an input, in the order of its texts, which are numbered from 0
abbrev pub input_parts : Input → List Part
input_parts input = parts_from 0 input.texts

-- whether a text has bytes before its first part
abbrev pub has_bytes_before : NamedText → Bool
has_bytes_before given = not (length (bytes_before (cut_lines given.bytes)) == 0)

-- the names that a part may have; certificates, what is claimed of other outcomes, and prices are for `verify`, and for `explain` where it
-- names no command, which ignores them
abbrev pub names_for : Option Target → List (List ℕ)
names_for (Some target.Verify) = codes "%rules" ∷ codes "%form" ∷ codes "%groups" ∷ codes "%solution" ∷ codes "%certificate" ∷ codes
    "%unique" ∷ codes "%tie" ∷ codes "%prices" ∷ codes "%cover" ∷ codes "%rule" ∷ []
names_for None = codes "%rules" ∷ codes "%form" ∷ codes "%groups" ∷ codes "%solution" ∷ codes "%certificate" ∷ codes "%unique" ∷ codes
    "%tie" ∷ codes "%prices" ∷ codes "%cover" ∷ codes "%rule" ∷ []
names_for (Some command) = codes "%rules" ∷ codes "%form" ∷ codes "%groups" ∷ codes "%solution" ∷ []

-- the names that a part may have for a request
abbrev pub part_names : Request → List (List ℕ)
part_names asked = names_for (target_of asked)

-- the fault of the part of this number, whose name isn't among them
abbrev pub unknown_part : ℕ → List ℕ → PartFault
unknown_part n name = if bytes_eq name (codes "%weights") then fault.OfVersion1 n else fault.PartName n

-- the fault of a part whose name the request doesn't know, given the parts before it
abbrev pub part_fault : Request → List Part → Part → Option PartFault
part_fault asked before p = if list_any (bytes_eq p.name) (part_names asked) then None else Some (unknown_part (length before + 1) p.name)

-- the first fault of the input
abbrev pub input_fault : Request → Input → Option PartFault
input_fault asked input =
    option_or (if list_any has_bytes_before input.texts then Some fault.BeforeFirst else None)
    (first_fault (part_fault asked) [] (input_parts input))

-- the bytes of the parts of a name, in the order of the input
abbrev pub parts_named : List ℕ → List Part → List (List ℕ)
parts_named name parts = map (λ p. p.bytes) (filter (λ (p : Part). bytes_eq p.name name) parts)

-- the numbers of the texts that the parts of a name are in, in the order of the input
abbrev pub text_numbers : List ℕ → List Part → List ℕ
text_numbers name parts = map (λ p. p.text) (filter (λ (p : Part). bytes_eq p.name name) parts)

-- the name in the line that heads a part of a kind
abbrev pub name_of : PartKind → List ℕ
name_of kind.Rules = codes "%rules"
name_of kind.Form = codes "%form"
name_of kind.Groups = codes "%groups"
name_of kind.Solution = codes "%solution"
name_of kind.Certificate = codes "%certificate"
name_of kind.Unique = codes "%unique"
name_of kind.Tie = codes "%tie"
name_of kind.Prices = codes "%prices"
name_of kind.Cover = codes "%cover"
name_of kind.Rule = codes "%rule"

-- what is held of parts, by the names of their kinds
abbrev pub parts_held : List declared.Part → List Part
parts_held held = map (λ (part : declared.Part). record { text = part.text; name = name_of part.kind; bytes = part.bytes.now }) held

-- the parts, where the input has no fault, and else the first fault; or memory was short
abbrev pub TellsParts : Request → Result (Vec declared.Part Global) PartFault → Input → Type 0
TellsParts asked (Ok held) input = (input_fault asked input ≡ None) × (parts_held held.items ≡ input_parts input)
TellsParts asked (Err fault.OutOfMemory) input = ⊤
TellsParts asked (Err f) input = input_fault asked input ≡ Some f
