-- Which text of an input a refusal is of, and the number that its part has there.
use Rattle.std.specs.Prelude.{◌+◌, ◌-◌, ℕ, List, [], ◌∷◌, Option, None, Some, if◌then◌else◌, length, map, nat_le, option_map, unwrap_or}
use Rattle.auction_input.specs.Input.{NamedText}
use Rattle.auction_input.specs.Parts.{Part, cut_lines, has_bytes_before, name_of, parts_in, parts_named}
use Rattle.auction_input.specs.declared.part_kind.PartKind.{PartKind}
use Rattle.auction_input.specs.declared.part_kind.PartKind.TheVariants as kind_of_part
use Rattle.auction_input.specs.declared.parts.PartFault.TheVariants as part
use Rattle.auction_input.specs.declared.places.Counted.{Counted}
use Rattle.auction_input.specs.declared.places.Counted.TheVariants as counted
use Rattle.auction_input.specs.declared.places.Spot.{Spot}
use Rattle.auction_input.specs.declared.refusal.Refusal.{Refusal}
use Rattle.auction_input.specs.declared.refusal.Refusal.TheVariants as refusal
use Rattle.auction_input.specs.declared.tie_fault.TieFault.TheVariants as tie
use Rattle.auction_terms.specs.declared.groups_text.GroupFault.TheVariants as groups
use Rattle.auction_terms.specs.declared.rules_text.RulesFault.TheVariants as rules
use Rattle.bid_forms.specs.declared.form_text.FormFault.TheVariants as form
use Rattle.program_rows.specs.declared.certificate_fault.CertificateFaultKind.TheVariants as certificate
use Rattle.program_rows.specs.declared.solution_fault.SolutionFault.TheVariants as solution

-- how many of these parts are of a kind; without a kind, how many there are
abbrev pub parts_counted : Option PartKind → List Part → ℕ
parts_counted (Some kind) parts = length (parts_named (name_of kind) parts)
parts_counted None parts = length parts

-- how much a text counts
abbrev pub count_in : Counted → NamedText → ℕ
count_in (counted.Kind kind) given = parts_counted (Some kind) (parts_in 0 (cut_lines given.bytes))
count_in counted.Parts given = parts_counted None (parts_in 0 (cut_lines given.bytes))
count_in counted.BytesBefore given = if has_bytes_before given then 1 else 0

-- where texts count so much each: the text with number n of all, and its number there
abbrev pub located : List ℕ → ℕ → Option Spot
located [] n = None
located (count ∷ more) n =
    if nat_le n count then Some (record { text = 0; number = n })
    else option_map (λ (at : Spot). record { text = at.text + 1; number = at.number }) (located more (n - count))

-- what a refusal is of: what is counted, and its number among that; where memory was short, and for a fault of no text, nothing
abbrev pub counted_as : Refusal → Option (Counted × ℕ)
counted_as (refusal.Rules rules.OutOfMemory) = None
counted_as (refusal.Form n form.OutOfMemory) = None
counted_as (refusal.Groups groups.OutOfMemory) = None
counted_as (refusal.Solution n solution.OutOfMemory) = None
counted_as (refusal.Tie n (tie.Solution solution.OutOfMemory)) = None
counted_as (refusal.Parts part.BeforeFirst) = Some (counted.BytesBefore, 1)
counted_as (refusal.Parts (part.PartName n)) = Some (counted.Parts, n)
counted_as (refusal.Parts (part.OfVersion1 n)) = Some (counted.Parts, n)
counted_as (refusal.Rules f) = Some (counted.Kind kind_of_part.Rules, 1)
counted_as (refusal.Form n f) = Some (counted.Kind kind_of_part.Form, n)
counted_as (refusal.AnotherForm f) = Some (counted.Kind kind_of_part.Form, f.form)
counted_as (refusal.CallLimit n) = Some (counted.Kind kind_of_part.Form, n)
counted_as (refusal.Groups f) = Some (counted.Kind kind_of_part.Groups, 1)
counted_as (refusal.NoGroup k) = Some (counted.Kind kind_of_part.Groups, 1)
counted_as refusal.FirstGroupNotEmpty = Some (counted.Kind kind_of_part.Groups, 1)
counted_as (refusal.Solution n f) = Some (counted.Kind kind_of_part.Solution, n)
counted_as (refusal.BoundBroken n name) = Some (counted.Kind kind_of_part.Solution, n)
counted_as (refusal.RowBroken n name) = Some (counted.Kind kind_of_part.Solution, n)
counted_as (refusal.Certificate n f) = elim (f.kind) [ certificate.OutOfMemory ↦ None | k ↦ Some (counted.Kind kind_of_part.Certificate, n) ]
counted_as (refusal.Unique f) = elim (f.kind) [ certificate.OutOfMemory ↦ None | k ↦ Some (counted.Kind kind_of_part.Unique, 1) ]
counted_as (refusal.Tie n f) = Some (counted.Kind kind_of_part.Tie, unwrap_or n 1)
counted_as (refusal.Parts part.OutOfMemory) = None
counted_as (refusal.Input f) = None
counted_as (refusal.PartCount k) = None
counted_as (refusal.Round f) = None
counted_as (refusal.Program f) = None
counted_as (refusal.Prices f) = None
counted_as (refusal.MissingPrice name) = None
counted_as (refusal.Cover f) = None
counted_as (refusal.Rule f) = None
counted_as (refusal.NoGroupAlone name) = None
counted_as (refusal.Write f) = None
counted_as refusal.OutOfMemory = None

-- the text, among these, that has the part of this number, counting parts of its kind through all texts, and its number there
abbrev spot_by : List NamedText → Option (Counted × ℕ) → Option Spot
spot_by texts None = None
spot_by texts (Some (what, n)) = located (map (count_in what) texts) n

-- the text that a refusal is of, where there are several, and the number that its part has there
abbrev pub spot_of : List NamedText → Refusal → Option Spot
spot_of texts r = if nat_le (length texts) 1 then None else spot_by texts (counted_as r)

-- a refusal, with another number of its part
abbrev pub with_number : ℕ → Refusal → Refusal
with_number n (refusal.Parts (part.PartName m)) = refusal.Parts (part.PartName n)
with_number n (refusal.Parts (part.OfVersion1 m)) = refusal.Parts (part.OfVersion1 n)
with_number n (refusal.Form m f) = refusal.Form n f
with_number n (refusal.CallLimit m) = refusal.CallLimit n
with_number n (refusal.Solution m f) = refusal.Solution n f
with_number n (refusal.BoundBroken m name) = refusal.BoundBroken n name
with_number n (refusal.RowBroken m name) = refusal.RowBroken n name
with_number n (refusal.Certificate m f) = refusal.Certificate n f
with_number n (refusal.Tie m f) = refusal.Tie (option_map (λ number. n) m) f
with_number n r = r
