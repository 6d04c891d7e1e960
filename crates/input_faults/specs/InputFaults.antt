-- All faults of an input, in the order in which they are reported. After faulty parts nothing is looked at, and after faulty rules no form
-- and no groups; each form is, whatever the others are; whose forms are in several texts, and how many calls they take, is looked at where
-- every form is read; what a command wants of the groups and of the numbers of parts, where the groups are.
use Rattle.std.specs.Prelude.{◌++◌, ℕ, Bool, List, [], Option, None, Result, Ok, Err, codes, map, option_map, option_to_list}
use Rattle.auction_input.specs.CallLimit.{one_too_many}
use Rattle.auction_input.specs.FormTexts.{form_elsewhere}
use Rattle.auction_input.specs.Input.{Input}
use Rattle.auction_input.specs.Parts.{Part, input_fault, parts_named, input_parts, text_numbers}
use Rattle.auction_input.specs.ParsedParts.{only_text}
use Rattle.auction_input.specs.Plan.{miscounted}
use Rattle.auction_input.specs.ParsedTexts.{parsed_form, parsed_groups, parsed_terms}
use Rattle.auction_input.specs.PartCounts.{numbers_in, unmet_refusal, wants}
use Rattle.auction_input.specs.declared.form_texts.AnotherForm.{AnotherForm}
use Rattle.auction_input.specs.declared.refusal.Refusal.{Refusal}
use Rattle.auction_input.specs.declared.refusal.Refusal.TheVariants as refusal
use Rattle.auction_terms.specs.AllFaults.{all_faults, failed, or_else}
use Rattle.auction_terms.specs.FirstFault.{first_fault}
use Rattle.auction_terms.specs.GroupsText.{group_faults}
use Rattle.auction_terms.specs.Judged.{Fault as Judged}
use Rattle.auction_terms.specs.Records.{records_of}
use Rattle.auction_terms.specs.RulesText.{rules_faults}
use Rattle.auction_terms.specs.Stages.{each_in_turn}
use Rattle.auction_terms.specs.Terms.{Terms}
use Rattle.auction_terms.specs.declared.groups_text.GroupFault.TheVariants as groups
use Rattle.auction_terms.specs.declared.rules_text.RulesFault.TheVariants as rules
use Rattle.bid_forms.specs.FormText.{form_faults}
use Rattle.bid_forms.specs.Offers.{Offers}
use Rattle.bid_forms.specs.declared.form_text.FormFault.TheVariants as form
use Rattle.input_faults.specs.FaultsAs.{fault_as, judged_as, judged_of_sized}
use Rattle.input_faults.specs.PartFaults.{uncounted_fault, uncut_fault, unmet_fault}
use Rattle.input_faults.specs.declared.fault.Fault.{Fault}
use Rattle.input_faults.specs.declared.fault.Fault.TheVariants as fault
use Rattle.auction_input.specs.Requests.{target_of}
use Rattle.auction_input.specs.declared.request.Request.{Request}
use Rattle.auction_input.specs.declared.request.Target.{Target}

-- the refusal of a fault
abbrev pub refusal_of : Fault → Refusal
refusal_of (fault.Parts f) = refusal.Parts f
refusal_of (fault.PartCount part) = refusal.PartCount part
refusal_of (fault.Rules f) = refusal.Rules f
refusal_of (fault.Form n f) = refusal.Form n f
refusal_of (fault.AnotherForm f) = refusal.AnotherForm f
refusal_of (fault.Groups f) = refusal.Groups f
refusal_of (fault.CallLimit n) = refusal.CallLimit n
refusal_of (fault.Unmet u) = unmet_refusal u

-- the fault of the parts
abbrev pub faults_of_parts : Request → Input → List (Judged Fault)
faults_of_parts asked input =
    or_else (option_to_list (option_map (uncut_fault input.texts) (input_fault asked input)))
    (option_to_list (option_map (uncounted_fault asked (input_parts input)) (miscounted asked (input_parts input))))

-- the faults of the rules
abbrev pub faults_of_rules : List ℕ → List (Judged Fault)
faults_of_rules text = judged_as fault.Rules (judged_of_sized rules.TooLarge text (rules_faults (records_of text)))

-- the faults of the form of this number
abbrev pub faults_of_form : Terms → ℕ → List ℕ → List (Judged Fault)
faults_of_form t number text = judged_as (fault.Form number) (judged_of_sized form.TooLarge text (form_faults t (records_of text)))

-- the faults of all forms
abbrev pub faults_of_forms : Terms → List (List ℕ) → List (Judged Fault)
faults_of_forms t texts = all_faults (λ number before text. faults_of_form t number text) 1 [] texts

-- the faults of the groups
abbrev pub faults_of_groups : Terms → List ℕ → List (Judged Fault)
faults_of_groups t text = judged_as fault.Groups (judged_of_sized groups.TooLarge text (group_faults t.bidders text))

-- the first form that is in another text than its bidder's first form, where every form is read
abbrev pub text_fault : Bool → Terms → List ℕ → Result (List Offers) Refusal → Option AnotherForm
text_fault last_wins t numbers (Ok forms) = form_elsewhere last_wins t numbers forms
text_fault last_wins t numbers (Err r) = None

-- the first form for which its bidder has no call left, where every form is read
abbrev pub call_fault : Result (List Offers) Refusal → Option ℕ
call_fault (Ok forms) = first_fault one_too_many [] forms
call_fault (Err r) = None

-- the faults of forms, which are in the texts of these numbers, and of groups under the rules
abbrev pub faults_under : Bool → List ℕ → List (List ℕ) → List ℕ → Terms → List (Judged Fault)
faults_under last_wins numbers forms groups t =
    let read : Result (List Offers) Refusal = each_in_turn (parsed_form t) 1 forms in
    faults_of_forms t forms ++ (fault_as fault.AnotherForm (text_fault last_wins t numbers read) ++
    (faults_of_groups t groups ++ fault_as fault.CallLimit (call_fault read)))

-- what rests on the rules, where they are read
abbrev pub where_read : Result Terms Refusal → (Terms → List (Judged Fault)) → List (Judged Fault)
where_read (Ok t) faults = faults t
where_read (Err r) faults = []

-- the faults of the texts of rules, forms and groups
abbrev pub faults_of_texts : Bool → List ℕ → List ℕ → List (List ℕ) → List ℕ → List (Judged Fault)
faults_of_texts last_wins rules numbers forms groups = faults_of_rules rules ++ where_read (parsed_terms rules) (faults_under last_wins numbers forms groups)

-- what a command wants, and these parts haven't got, where their groups are read
abbrev pub unmet_faults : Option Target → List Part → Result (List (List ℕ)) Refusal → List (Judged Fault)
unmet_faults command parts (Ok groups) = map unmet_fault (failed (wants command (numbers_in parts groups)))
unmet_faults command parts (Err r) = []

-- what a command wants under these rules and the parts haven't got, if their groups are accepted
abbrev pub unmet_under : Option Target → List Part → Terms → List (Judged Fault)
unmet_under command parts t = unmet_faults command parts (parsed_groups t (only_text (parts_named (codes "%groups") parts)))

-- the faults of the texts in parts, and of what a command wants of them
abbrev pub faults_in_parts : Option Target → Bool → List Part → List (Judged Fault)
faults_in_parts command last_wins parts =
    faults_of_texts last_wins (only_text (parts_named (codes "%rules") parts)) (text_numbers (codes "%form") parts)
    (parts_named (codes "%form") parts) (only_text (parts_named (codes "%groups") parts))
    ++ where_read (parsed_terms (only_text (parts_named (codes "%rules") parts))) (unmet_under command parts)

-- the faults of an input
abbrev pub input_faults : Request → Input → List (Judged Fault)
input_faults asked input = or_else (faults_of_parts asked input) (faults_in_parts (target_of asked) input.last_wins (input_parts input))
