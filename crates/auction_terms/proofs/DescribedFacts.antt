-- What is read of a text is what the text describes.
use Rattle.std.proofs.Common.{◌≡◌, ◌∷◌, ℕ, List, [], Option, Some, None, Ok, Err, ap, refl, sym, map}
use Rattle.std.specs.Prelude.{◌↔◌}
use Rattle.std.specs.Option.{option_map_or}
use Rattle.auction_terms.proofs.AcceptedRulesFacts.{none-rules}
use Rattle.auction_terms.proofs.NoFaultFacts.{none-lines}
use Rattle.auction_terms.specs.AcceptedRules.{AreRules}
use Rattle.auction_terms.specs.Described.{DescribeRules, DescribesGroups}
use Rattle.auction_terms.specs.GroupsText.{group_faults, group_of, groups_of}
use Rattle.auction_terms.specs.Judged.{Fault, first_or}
use Rattle.auction_terms.specs.Lines.{lines_of}
use Rattle.auction_terms.specs.Records.{Record}
use Rattle.auction_terms.specs.RulesText.{faults_of_version, rules_faults, rules_of_records, terms_of_version, version_of}
use Rattle.auction_terms.specs.Terms.{Terms}
use Rattle.auction_terms.specs.declared.record_kinds.Version.{Version}
use Rattle.auction_terms.specs.declared.rules.Bidder.{Bidder}
use Rattle.auction_terms.specs.declared.rules_text.RulesFault.TheVariants as fault

-- a value is given where there is no fault
pub faultless : {A F : Type 0} (faults : List (Fault F)) (value given : A) → first_or faults value ≡ Ok given → (faults ≡ []) × (given ≡ value)
faultless [] value given is = (refl, cc is)
faultless (f ∷ more) value given is = cc is

module _ (header : Record) (more : List Record) (t : Terms) where
  read-by : (o : Option Version) → version_of header ≡ o
      → option_map_or (λ v. first_or (faults_of_version header more v) (terms_of_version header more v)) o (Err (fault.Header 1)) ≡ Ok t
      → DescribeRules (header ∷ more) t
  read-by None is read = cc read
  read-by (Some v) is read =
      let (none, value) = faultless (faults_of_version header more v) (terms_of_version header more v) t read in
      let all : rules_faults (header ∷ more) ≡ [] = rw is none in
      let are : AreRules header more = (none-rules (header ∷ more)).0 all in
      let same : are.version ≡ v = (let found = are.version_is in cc) in
      (are, rw same value)

  described : DescribeRules (header ∷ more) t → rules_of_records (header ∷ more) ≡ Ok t
  described (are, value) =
      let all : rules_faults (header ∷ more) ≡ [] = (none-rules (header ∷ more)).1 are in
      let none : faults_of_version header more are.version ≡ [] = rw are.version_is at all in
      rw (are.version_is, none) (ap (λ (u : Terms). Ok u) (sym value))

pub described-rules : (records : List Record) (t : Terms) → rules_of_records records ≡ Ok t ↔ DescribeRules records t
described-rules [] t = (λ is. cc is, λ it. absurd it)
described-rules (header ∷ more) t = (read-by header more t (version_of header) refl, described header more t)

pub described-groups : (bidders : List Bidder) (text : List ℕ) (groups : List (List ℕ))
    → groups_of bidders text ≡ Ok groups ↔ DescribesGroups bidders text groups
described-groups bidders text groups = (forth, back)
  where
    forth : groups_of bidders text ≡ Ok groups → DescribesGroups bidders text groups
    forth read =
        let (none, value) = faultless (group_faults bidders text) (map (group_of bidders) (lines_of text)) groups read in
        ((none-lines bidders text).0 none, value)

    back : DescribesGroups bidders text groups → groups_of bidders text ≡ Ok groups
    back (lines, value) = rw ((none-lines bidders text).1 lines) (ap (λ (all : List (List ℕ)). Ok all) (sym value))
