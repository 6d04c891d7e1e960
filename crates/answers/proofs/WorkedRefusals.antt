-- Refusals that the function computes: the number of parts, a part, rules, forms and groups.
use Rattle.std.specs.Prelude.{◌≡◌, refl, Err, codes}
use Rattle.csv.specs.Records.{field_at}
use Rattle.csv.proofs.OnLiterals.{csv_on_literals}
use Rattle.auction_terms.specs.AllFaults.{all_faults}
use Rattle.auction_terms.specs.FirstFault.{first_fault}
use Rattle.auction_terms.specs.declared.rules_text.RulesFault.TheVariants as rules_fault
use Rattle.bid_forms.specs.declared.form_text.FormFault.TheVariants as form_fault
use Rattle.auction_input.specs.declared.part_kind.PartKind.TheVariants as part
use Rattle.auction_input.specs.declared.parts.PartFault.TheVariants as part_fault
use Rattle.auction_input.specs.Input.{input_of}
use Rattle.answers.specs.Answer.{answer}
use Rattle.auction_input.specs.declared.refusal.Refusal.TheVariants as refusal
use Rattle.auction_input.specs.declared.request.Request.TheVariants.{Text}

two_rules : answer Text
    (input_of
    (codes
    "%rules\nrules,1,1,,\ncategory,A,2,10,1\ncategory,B,1,5,1\nbidder,Alpha,9,2,\nbidder,Beta,9,1,\nbidder,Gamma,9,1,\n%rules\nrules,1,1,,\ncategory,A,2,10,1\ncategory,B,1,5,1\nbidder,Alpha,9,2,\nbidder,Beta,9,1,\nbidder,Gamma,9,1,\n")) ≡ Err (refusal.PartCount part.Rules)
unfolding first_fault
two_rules = refl

bytes_before : answer Text (input_of (codes "x")) ≡ Err (refusal.Parts part_fault.BeforeFirst)
unfolding first_fault
bytes_before = refl

four_fields : answer Text
    (input_of (codes "%rules\nrules,1,1,,\ncategory,A,2,10\ncategory,B,1,5,1\nbidder,Alpha,9,2,\nbidder,Beta,9,1,\nbidder,Gamma,9,1,\n"))
    ≡ Err (refusal.Rules (rules_fault.FieldCount 2))
unfolding all_faults csv_on_literals field_at first_fault
four_fields = refl

unknown_version : answer Text
    (input_of (codes "%rules\nrules,7,1,,\ncategory,A,2,10,1\ncategory,B,1,5,1\nbidder,Alpha,9,2,\nbidder,Beta,9,1,\nbidder,Gamma,9,1,\n"))
    ≡ Err (refusal.Rules (rules_fault.Header 1))
unfolding all_faults csv_on_literals field_at first_fault
unknown_version = refl

two_bidders_of_one_name : answer Text
    (input_of (codes "%rules\nrules,1,1,,\ncategory,A,2,10,1\ncategory,B,1,5,1\nbidder,Alpha,9,2,\nbidder,Alpha,9,1,\nbidder,Gamma,9,1,\n"))
    ≡ Err (refusal.Rules (rules_fault.NameRepeated 5))
unfolding all_faults csv_on_literals field_at first_fault
two_bidders_of_one_name = refl

below_reserve : answer Text
    (input_of
    (codes
    "%rules\nrules,1,1,,\ncategory,A,2,10,1\ncategory,B,1,5,1\nbidder,Alpha,9,2,\nbidder,Beta,9,1,\nbidder,Gamma,9,1,\n%form\nAlpha,A,B\n14,1,1\n")) ≡ Err (refusal.Form 1 (form_fault.BelowReserve 2))
unfolding all_faults csv_on_literals field_at first_fault
below_reserve = refl
