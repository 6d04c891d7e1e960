-- What a command wants, and an input hasn't got.
use Rattle.std.proofs.Common.{◌≡◌, ◌<◌, ◌+◌, ◌++◌, ◌∷◌, ◌∙◌, ℕ, Bool, true, false, List, [], None, Result, Ok, Err, ap, length, map, refl, slice_index_or, sym, take}
use Rattle.std.proofs.lemmas.List.{take_more}
use Rattle.std.specs.Prelude.{MatchOption, Option, Some, codes}
use Rattle.auction_input.specs.ParsedParts.{only_text}
use Rattle.auction_input.specs.ParsedTexts.{parsed_groups}
use Rattle.auction_input.specs.Parts.{Part, parts_named}
use Rattle.auction_input.specs.declared.request.Target.{Target}
use Rattle.auction_input.specs.declared.refusal.Refusal.{Refusal}
use Rattle.auction_input.specs.declared.part_counts.Unmet.{Unmet}
use Rattle.auction_terms.specs.AllFaults.{failed}
use Rattle.auction_terms.specs.Judged.{Fault as Judged}
use Rattle.auction_terms.specs.Terms.{Terms}
use Rattle.input_faults.specs.InputFaults.{unmet_faults, unmet_under}
use Rattle.input_faults.specs.inside.Finding.{AreGroupsOf, unmet_with}
use Rattle.input_faults.specs.PartFaults.{unmet_fault}
use Rattle.input_faults.specs.declared.fault.Fault.{Fault}

abbrev pub unmet_of : List (Bool × Unmet) → List (Judged Fault)
unmet_of tests = map unmet_fault (failed tests)

-- tests after others
pub unmet-both : (first second : List (Bool × Unmet)) → unmet_of (first ++ second) ≡ unmet_of first ++ unmet_of second
unmet-both [] second = refl
unmet-both ((true, u) ∷ more) second = unmet-both more second
unmet-both ((false, u) ∷ more) second = ap (λ (fs : List (Judged Fault)). unmet_fault u ∷ fs) (unmet-both more second)

-- one test more
pub unmet-next : (tests : List (Bool × Unmet)) (n : ℕ) (d : Bool × Unmet) → n < length tests
    → unmet_of (take n tests) ++ unmet_of (slice_index_or tests n d ∷ []) ≡ unmet_of (take (n + 1) tests)
unmet-next tests n d within = sym (unmet-both (take n tests) (slice_index_or tests n d ∷ [])) ∙ ap unmet_of (sym (take_more tests n d within))

-- where no command is named nothing is wanted
pub none-wanted : (parts : List Part) (reported : Result (List (List ℕ)) Refusal) → unmet_faults None parts reported ≡ []
none-wanted parts (Ok groups) = refl
none-wanted parts (Err r) = refl

-- ---------- groups that are read once

-- the groups that are returned with the faults of their text
pub are-groups : (t : Terms) (parts : List Part) (text : List ℕ) (groups : Option (List (List ℕ)))
    → text ≡ only_text (parts_named (codes "%groups") parts)
    → MatchOption groups ((r : Refusal) × (parsed_groups t text ≡ Err r)) (λ lists. parsed_groups t text ≡ Ok lists)
    → AreGroupsOf t parts groups
are-groups t parts text None is reported = rw is at reported
are-groups t parts text (Some lists) is reported = rw is at reported

-- what is unmet with them
pub unmet-read : (command : Option Target) (parts : List Part) (t : Terms) (groups : Option (List (List ℕ))) → AreGroupsOf t parts groups
    → unmet_with command parts groups ≡ unmet_under command parts t
unmet-read command parts t None (r, is) = sym (ap (unmet_faults command parts) is)
unmet-read command parts t (Some lists) is = sym (ap (unmet_faults command parts) is)
