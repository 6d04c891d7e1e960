-- What small texts of rules and of groups describe.
use Rattle.std.proofs.Common.{◌≡◌, ℕ, List, arith}
use Rattle.std.specs.Prelude.{[], ◌∷◌, Ok, Err, codes}
use Rattle.csv.specs.Records.{field_at}
use Rattle.csv.proofs.OnLiterals.{csv_on_literals}
use Rattle.auction_terms.proofs.DescribedFacts.{described-groups, described-rules}
use Rattle.auction_terms.specs.AllFaults.{all_faults}
use Rattle.auction_terms.specs.Described.{DescribeRules, DescribesGroups}
use Rattle.auction_terms.specs.GroupsText.{groups_of}
use Rattle.auction_terms.specs.Records.{Record, records_of}
use Rattle.auction_terms.specs.RulesText.{rules_of_records}
use Rattle.auction_terms.specs.Terms.{Terms}
use Rattle.auction_terms.specs.declared.groups_text.GroupFault.{GroupFault}
use Rattle.auction_terms.specs.declared.groups_text.GroupFault.TheVariants as group_fault
use Rattle.auction_terms.specs.declared.rules.Bidder.{Bidder}
use Rattle.auction_terms.specs.declared.rules_text.RulesFault.{RulesFault}
use Rattle.auction_terms.specs.declared.rules_text.RulesFault.TheVariants as fault

-- what is refused describes nothing
no-rules : (records : List Record) (f : RulesFault) → rules_of_records records ≡ Err f → (t : Terms) → DescribeRules records t → ⊥
no-rules records f refused t describe = (let read = (described-rules records t).1 describe in cc)

no-groups : (bidders : List Bidder) (text : List ℕ) (f : GroupFault) → groups_of bidders text ≡ Err f
    → (groups : List (List ℕ)) → DescribesGroups bidders text groups → ⊥
no-groups bidders text f refused groups describe = (let read = (described-groups bidders text groups).1 describe in cc)

abbrev alpha_and_beta : List Bidder
alpha_and_beta = record { name = codes "Alpha"; eligibility = 9; sessions = 2 } ∷ record { name = codes "Beta"; eligibility = 5; sessions = 1 } ∷ []

abbrev one_category : Terms
one_category = record {
  step = 5;
  categories = record { name = codes "A"; supply = 2; reserve = 10; points = 1; value = 40 } ∷ [];
  bidders = alpha_and_beta;
  pools = [];
}

-- rules with a category and two bidders, without a bidder, and with two bidders of one name
abbrev rules_text : List ℕ
rules_text = codes "rules,2,5,,,\ncategory,A,2,10,1,40\nbidder,Alpha,9,2,,\nbidder,Beta,5,1,,\n"

abbrev without_bidder : List ℕ
without_bidder = codes "rules,2,5,,,\ncategory,A,2,10,1,40\n"

abbrev twice_alpha : List ℕ
twice_alpha = codes "rules,2,5,,,\ncategory,A,2,10,1,40\nbidder,Alpha,9,2,,\nbidder,Alpha,5,1,,\n"

-- groups of known bidders, and of another one
abbrev groups_text : List ℕ
groups_text = codes "-\nBeta+Alpha\nBeta\n"

abbrev of_gamma : List ℕ
of_gamma = codes "-\nGamma\n"

record Read : Type 0 where
  rules : rules_of_records (records_of rules_text) ≡ Ok one_category
  no_bidder : rules_of_records (records_of without_bidder) ≡ Err (fault.NoBidder 2)
  twice : rules_of_records (records_of twice_alpha) ≡ Err (fault.NameRepeated 4)
  groups : groups_of alpha_and_beta groups_text ≡ Ok ([] ∷ (1 ∷ 2 ∷ []) ∷ (2 ∷ []) ∷ [])
  unknown : groups_of alpha_and_beta of_gamma ≡ Err (group_fault.UnknownBidder 2)

read : Read
unfolding all_faults csv_on_literals field_at
read = grind arith

record Described : Type 0 where
  rules : DescribeRules (records_of rules_text) one_category
  no_bidder : (t : Terms) → DescribeRules (records_of without_bidder) t → ⊥
  twice : (t : Terms) → DescribeRules (records_of twice_alpha) t → ⊥
  groups : DescribesGroups alpha_and_beta groups_text ([] ∷ (1 ∷ 2 ∷ []) ∷ (2 ∷ []) ∷ [])
  unknown : (groups : List (List ℕ)) → DescribesGroups alpha_and_beta of_gamma groups → ⊥

described : Described
described = record {
  rules = (described-rules (records_of rules_text) one_category).0 read.rules;
  no_bidder = no-rules (records_of without_bidder) (fault.NoBidder 2) read.no_bidder;
  twice = no-rules (records_of twice_alpha) (fault.NameRepeated 4) read.twice;
  groups = (described-groups alpha_and_beta groups_text ([] ∷ (1 ∷ 2 ∷ []) ∷ (2 ∷ []) ∷ [])).0 read.groups;
  unknown = no-groups alpha_and_beta of_gamma (group_fault.UnknownBidder 2) read.unknown;
}
