-- How faults of an input are found, one text after the other.
use Rattle.std.specs.Prelude.{◌≡◌, ◌++◌, ℕ, List, [], Option, None, Some, Ok, Err, codes}
use Rattle.auction_input.specs.ParsedParts.{only_text}
use Rattle.auction_input.specs.ParsedTexts.{parsed_groups}
use Rattle.auction_input.specs.Parts.{Part, parts_named}
use Rattle.auction_input.specs.declared.refusal.Refusal.{Refusal}
use Rattle.auction_input.specs.declared.request.Target.{Target}
use Rattle.auction_terms.specs.Judged.{Fault, Holds}
use Rattle.auction_terms.specs.declared.judge.All.{All}
use Rattle.auction_terms.specs.Terms.{Terms}
use Rattle.auction_terms.specs.declared.limits.TheConstants.{MOST_FAULTS}
use Rattle.input_faults.specs.InputFaults.{unmet_faults}
use Rattle.input_faults.specs.declared.fault.Fault.{Fault as InputFault}

-- after the faults that were found before, these were found, of which as many are kept as there is room for
abbrev pub FindsMore : {F : Type 0} → All F → All F → List (Fault F) → Type 0
FindsMore {F} old new more = (faults : List (Fault F)) → Holds MOST_FAULTS old faults → Holds MOST_FAULTS new (faults ++ more)

-- the groups that the text of groups of these parts describes under these rules, or none if the text is refused
abbrev pub AreGroupsOf : Terms → List Part → Option (List (List ℕ)) → Type 0
AreGroupsOf t parts None = (r : Refusal) × (parsed_groups t (only_text (parts_named (codes "%groups") parts)) ≡ Err r)
AreGroupsOf t parts (Some groups) = parsed_groups t (only_text (parts_named (codes "%groups") parts)) ≡ Ok groups

-- what a command wants, and these parts haven't got with these groups, if there are any
abbrev pub unmet_with : Option Target → List Part → Option (List (List ℕ)) → List (Fault InputFault)
unmet_with command parts None = []
unmet_with command parts (Some groups) = unmet_faults command parts (Ok groups)
