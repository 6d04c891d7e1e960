-- What the texts of rules, forms and groups describe, their sizes included, or which refusal is the first.
use Rattle.std.specs.Prelude.{ℕ, List, Result, Err, if◌then◌else◌, length, nat_lt}
use Rattle.auction_input.specs.declared.refusal.Refusal.TheVariants as refusal
use Rattle.auction_input.specs.declared.refusal.Refusal.{Refusal}
use Rattle.auction_terms.specs.GroupsText.{groups_of}
use Rattle.auction_terms.specs.Records.{records_of}
use Rattle.auction_terms.specs.RulesText.{rules_of_records}
use Rattle.auction_terms.specs.Stages.{refused_as}
use Rattle.auction_terms.specs.Terms.{Terms}
use Rattle.auction_terms.specs.declared.groups_text.GroupFault.TheVariants as groups
use Rattle.auction_terms.specs.declared.limits.TheConstants.{TEXT_LIMIT}
use Rattle.auction_terms.specs.declared.rules_text.RulesFault.TheVariants as rules
use Rattle.bid_forms.specs.FormText.{form_of_records}
use Rattle.bid_forms.specs.Offers.{Offers}
use Rattle.bid_forms.specs.declared.form_text.FormFault.TheVariants as form
use Rattle.bid_forms.specs.declared.form_text.FormFault.{FormFault}

-- the rules in the one text of them
abbrev pub parsed_terms : List ℕ → Result Terms Refusal
parsed_terms text = refused_as refusal.Rules (if nat_lt TEXT_LIMIT (length text) then Err rules.TooLarge else rules_of_records (records_of text))

-- a form
abbrev pub form_in : Terms → List ℕ → Result Offers FormFault
form_in t text = if nat_lt TEXT_LIMIT (length text) then Err form.TooLarge else form_of_records t (records_of text)

-- the form of this number
abbrev pub parsed_form : Terms → ℕ → List ℕ → Result Offers Refusal
parsed_form t number text = refused_as (refusal.Form number) (form_in t text)

-- a command that takes no groups has no text of them, which describes none
abbrev pub parsed_groups : Terms → List ℕ → Result (List (List ℕ)) Refusal
parsed_groups t text = refused_as refusal.Groups (if nat_lt TEXT_LIMIT (length text) then Err groups.TooLarge else groups_of t.bidders text)
