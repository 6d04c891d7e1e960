-- The line on standard error for a refusal: the words of its part, the message of the fault, and the name of what is broken.
use Rattle.std.specs.Prelude.{◌⊎◌, ◌++◌, ℕ, List, [], ◌∷◌, Option, None, Some, codes, decimal}
use Rattle.auction_input.specs.declared.input.InputFault.TheVariants as input
use Rattle.auction_input.specs.declared.parts.PartFault.TheVariants as part
use Rattle.auction_input.specs.declared.part_kind.PartKind.{PartKind}
use Rattle.auction_input.specs.declared.part_kind.PartKind.TheVariants as kind_of_part
use Rattle.auction_input.specs.declared.refusal.Refusal.TheVariants as refusal
use Rattle.auction_input.specs.declared.refusal.Refusal.{Refusal}
use Rattle.auction_input.specs.declared.round.RoundFault.TheVariants as round
use Rattle.auction_input.specs.declared.tie_fault.TieFault.TheVariants as tie
use Rattle.auction_input.specs.declared.tie_fault.TieFault.{TieFault}
use Rattle.auction_terms.specs.GroupFaultText.{group_fault_text}
use Rattle.auction_terms.specs.RulesFaultText.{rules_fault_text}
use Rattle.bid_forms.specs.FormFaultText.{form_fault_text}
use Rattle.program_rows.specs.MpsFaultText.{mps_fault_text}
use Rattle.byte_sinks.specs.Sinks.{GoesInPart, GoesWhole, Outlet}
use Rattle.byte_sinks.specs.declared.writer.WriteFault.TheVariants as write
use Rattle.program_rows.specs.CertificateFaultText.{certificate_fault_text}
use Rattle.auction_input.specs.PriceFaultText.{price_fault_text}
use Rattle.auction_input.specs.declared.price_fault.PriceFault.TheVariants as price
use Rattle.program_rows.specs.SolutionFaultText.{solution_fault_text}
use Rattle.auction_terms.specs.declared.groups_text.GroupFault.TheVariants as groups
use Rattle.auction_terms.specs.declared.rules_text.RulesFault.TheVariants as rules
use Rattle.bid_forms.specs.declared.form_text.FormFault.TheVariants as form
use Rattle.program_rows.specs.declared.certificate_fault.CertificateFaultKind.TheVariants as certificate
use Rattle.program_rows.specs.declared.solution_fault.SolutionFault.TheVariants as solution
use Rattle.program_rows.specs.declared.mps_fault_kind.MpsFaultKind.TheVariants as kind

-- the words on a tie, with its number if there are several
abbrev pub tie_words : Option ℕ → List ℕ
tie_words None = codes "tie: "
tie_words (Some n) = codes "tie " ++ (decimal n ++ codes ": ")

-- the words for why a tie is refused
abbrev pub tie_fault_text : TieFault → List ℕ
tie_fault_text (tie.Solution f) = solution_fault_text f
tie_fault_text (tie.BoundBroken name) = codes "7 BoundBroken at column " ++ name
tie_fault_text (tie.RowBroken name) = codes "8 RowBroken at row " ++ name
tie_fault_text tie.LowerTotal = codes "total below that of group 1"
tie_fault_text tie.SameAsFirst = codes "same winners as group 1"
tie_fault_text (tie.SameAsTie n) = codes "same winners as tie " ++ decimal n

-- the words on bytes before the first part
abbrev pub before_first : List ℕ
before_first = codes "bytes before the first part"

-- the words on a part that only inputs of version 1 have
abbrev pub of_version_1 : List ℕ
of_version_1 = codes "%weights is of version 1, and wdp-office prices makes %rule in its place"

-- the words on a kind of which there are too few parts, or too many
abbrev pub wrong_number : PartKind → List ℕ
wrong_number kind_of_part.Rules = codes "wrong number of rules"
wrong_number kind_of_part.Form = codes "wrong number of forms"
wrong_number kind_of_part.Groups = codes "wrong number of groups"
wrong_number kind_of_part.Solution = codes "wrong number of solutions"
wrong_number kind_of_part.Certificate = codes "wrong number of certificates"
wrong_number kind_of_part.Unique = codes "wrong number of uniques"
wrong_number kind_of_part.Tie = codes "wrong number of ties"
wrong_number kind_of_part.Prices = codes "wrong number of prices"
wrong_number kind_of_part.Cover = codes "wrong number of covers"
wrong_number kind_of_part.Rule = codes "wrong number of price rules"

-- what is reported of a refusal: wherever memory was short, just that; of a fault the words of its part before it
abbrev pub refusal_text : Refusal → List ℕ
refusal_text (refusal.Input input.OutOfMemory) = codes "out of memory"
refusal_text (refusal.Parts part.OutOfMemory) = codes "out of memory"
refusal_text (refusal.Round round.OutOfMemory) = codes "out of memory"
refusal_text refusal.OutOfMemory = codes "out of memory"
refusal_text (refusal.Rules rules.OutOfMemory) = codes "out of memory"
refusal_text (refusal.Form n form.OutOfMemory) = codes "out of memory"
refusal_text (refusal.Groups groups.OutOfMemory) = codes "out of memory"
refusal_text (refusal.Solution n solution.OutOfMemory) = codes "out of memory"
refusal_text (refusal.Tie n (tie.Solution solution.OutOfMemory)) = codes "out of memory"
refusal_text (refusal.Prices price.OutOfMemory) = codes "out of memory"
refusal_text (refusal.Rule price.OutOfMemory) = codes "out of memory"
refusal_text (refusal.Input input.ReadFailed) = codes "input: read failed"
refusal_text (refusal.Input input.TooLarge) = codes "input: too large"
refusal_text (refusal.Parts part.BeforeFirst) = codes "input: " ++ before_first
refusal_text (refusal.Parts (part.PartName place)) = codes "input: part " ++ (decimal place ++ codes " not known")
refusal_text (refusal.Parts (part.OfVersion1 place)) = (codes "input: part " ++ (decimal place ++ codes " not known: ")) ++ of_version_1
refusal_text (refusal.PartCount kind) = codes "input: " ++ wrong_number kind
refusal_text (refusal.Rules f) = codes "rules: " ++ rules_fault_text f
refusal_text (refusal.Form n f) = (codes "form " ++ (decimal n ++ codes ": ")) ++ form_fault_text f
refusal_text (refusal.AnotherForm f) = codes "another form of " ++ f.bidder
refusal_text (refusal.Groups f) = codes "groups: " ++ group_fault_text f
refusal_text (refusal.CallLimit n) = (codes "form " ++ (decimal n ++ codes ": ")) ++ codes "CallLimit"
refusal_text (refusal.Round round.WrongAnswer) = codes "desk: wrong answer"
refusal_text (refusal.NoGroup k) = codes "groups: no group " ++ decimal k
refusal_text refusal.FirstGroupNotEmpty = codes "groups: group 1 is not empty"
refusal_text (refusal.Program f) = elim (f.kind) [ kind.OutOfMemory ↦ codes "out of memory" | k ↦ codes "program: " ++ mps_fault_text f.line f.kind ]
refusal_text (refusal.Solution n f) = (codes "solution " ++ (decimal n ++ codes ": ")) ++ solution_fault_text f
refusal_text (refusal.BoundBroken n name) = (codes "solution " ++ (decimal n ++ codes ": ")) ++ (codes "7 BoundBroken at column " ++ name)
refusal_text (refusal.RowBroken n name) = (codes "solution " ++ (decimal n ++ codes ": ")) ++ (codes "8 RowBroken at row " ++ name)
refusal_text (refusal.Certificate n f) =
    elim (f.kind) [
      | certificate.OutOfMemory ↦ codes "out of memory"
      | k ↦ (codes "certificate " ++ (decimal n ++ codes ": ")) ++
          certificate_fault_text f.line f.kind
    ]
refusal_text (refusal.Unique f) =
    elim (f.kind) [ certificate.OutOfMemory ↦ codes "out of memory" | k ↦ codes "unique: " ++ certificate_fault_text f.line f.kind ]
refusal_text (refusal.Tie n f) = tie_words n ++ tie_fault_text f
refusal_text (refusal.Prices f) = codes "prices: " ++ price_fault_text f
refusal_text (refusal.MissingPrice name) = codes "prices: 6 MissingWinner " ++ name
refusal_text (refusal.Cover f) = elim (f.kind) [ certificate.OutOfMemory ↦ codes "out of memory" | k ↦ codes "cover: " ++ certificate_fault_text f.line f.kind ]
refusal_text (refusal.Rule f) = codes "rule: " ++ price_fault_text f
refusal_text (refusal.NoGroupAlone name) = codes "rule: 13 NoGroupAlone " ++ name
refusal_text (refusal.Write (write.Sink written)) = codes "write failed after " ++ (decimal written ++ codes " bytes")

-- the line on standard error for a refusal: the name of the program, and what is reported
abbrev pub line : Refusal → List ℕ
line r = codes "wdp: " ++ (refusal_text r ++ 10 ∷ [])

-- a text is put: all of it goes out, or the first of it and a put fails
abbrev pub Puts : List ℕ → Outlet → Outlet → Type 0
Puts text before after = GoesWhole before after text ⊎ ((written : ℕ) × GoesInPart before after text written)
