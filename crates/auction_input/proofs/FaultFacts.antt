-- A fault that a part of the program answers is the refusal that is reported, or memory was short.
use Rattle.std.proofs.Common.{◌≡◌, ℕ, List, Result, Err, ap, refl, sym, inl, inr}
use Rattle.auction_input.specs.Refused.{Refuses}
use Rattle.auction_terms.specs.Stages.{Answers, refused_as}
use Rattle.auction_input.specs.declared.refusal.Refusal.TheVariants as refusal
use Rattle.auction_input.specs.declared.refusal.Refusal.{Refusal}
use Rattle.auction_terms.specs.GroupsText as groups_text
use Rattle.auction_terms.specs.RulesText as rules_text
use Rattle.auction_terms.specs.Terms.{Terms}
use Rattle.auction_terms.specs.declared.groups_text.GroupFault.TheVariants as groups
use Rattle.auction_terms.specs.declared.groups_text.GroupFault.{GroupFault}
use Rattle.auction_terms.specs.declared.rules_text.RulesFault.TheVariants as rules
use Rattle.auction_terms.specs.declared.rules_text.RulesFault.{RulesFault}
use Rattle.bid_forms.specs.FormText as form_text
use Rattle.bid_forms.specs.Offers.{Offers}
use Rattle.bid_forms.specs.declared.form_text.FormFault.TheVariants as form
use Rattle.bid_forms.specs.declared.form_text.FormFault.{FormFault}

abbrev pub no_rules : RulesFault → Result Terms RulesFault
no_rules f = Err f

abbrev pub no_groups : GroupFault → Result (List (List ℕ)) GroupFault
no_groups f = Err f

parsed-as : {A F : Type 0} (parse : F → Refusal) (f : F) (x : Result A F) → Err f ≡ x → Refuses (refused_as parse x) (parse f)
parsed-as parse f x is = inl (ap (λ r. refused_as parse r) (sym is))

pub rules-refuse : (f : RulesFault) (x : Result Terms RulesFault) → Answers rules_text.is_rules_memory (no_rules f) x
    → Refuses (refused_as refusal.Rules x) (refusal.Rules f)
rules-refuse rules.OutOfMemory x is = inr refl
rules-refuse f x is = parsed-as refusal.Rules f x is

pub groups-refuse : (f : GroupFault) (x : Result (List (List ℕ)) GroupFault) → Answers groups_text.is_groups_memory (no_groups f) x
    → Refuses (refused_as refusal.Groups x) (refusal.Groups f)
groups-refuse groups.OutOfMemory x is = inr refl
groups-refuse f x is = parsed-as refusal.Groups f x is

pub form-refuses : (n : ℕ) (f : FormFault) (x : Result Offers FormFault) → Answers form_text.is_form_memory (Err f) x
    → Refuses (refused_as (refusal.Form n) x) (refusal.Form n f)
form-refuses n form.OutOfMemory x is = inr refl
form-refuses n f x is = parsed-as (refusal.Form n) f x is
