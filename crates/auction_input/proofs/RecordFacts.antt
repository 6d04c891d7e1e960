-- What records of rules have, of which none has a fault.
use Rattle.std.proofs.Common.{◌≡◌, ◌≤◌, ◌<◌, ◌++◌, ◌∷◌, [], ℕ, Bool, true, false, List, Option, None, Some, Ok, Err}
use Rattle.std.proofs.Common.{append_assoc, arith, length, length-append, refl, subst, ◌+◌, append-nil, inl, inr, ap}
use Rattle.std.proofs.Common.{◌∙◌}
use Rattle.std.specs.List.{AllByRecursion}
use Rattle.std.specs.Option.{option_map_or, option_or}
use Rattle.std.proofs.lemmas.Bool.{cases_Bool}
use Rattle.std.proofs.lemmas.List.Elements.{filter-append}
use Rattle.auction_terms.specs.Entries.{terms_of}
use Rattle.auction_terms.proofs.AcceptedFacts.{both-none, or_else-none}
use Rattle.auction_terms.specs.AllFaults.{all_faults}
use Rattle.auction_terms.specs.FirstFault.{first_failed}
use Rattle.auction_terms.specs.Judged.{Fault, fault_of, first_or}
use Rattle.auction_terms.specs.Records.{Record}
use Rattle.auction_terms.specs.RulesText.{end_checks, entries_of, fault_of_entry, faults_of_records, faults_of_version, field_number, header_checks, is_kind}
use Rattle.auction_terms.specs.RulesText.{of_kind, record_kind, rules_of_records, terms_of_version, version_of}
use Rattle.auction_terms.specs.Terms.{Terms}
use Rattle.auction_terms.specs.declared.record_kinds.RecordKind.{RecordKind}
use Rattle.auction_terms.specs.declared.record_kinds.RecordKind.TheVariants as kind
use Rattle.auction_terms.specs.declared.record_kinds.Version.{Version}
use Rattle.auction_terms.specs.declared.rules_text.RulesFault.TheVariants as rules_fault

-- ---- checks

-- where none has failed, each holds
pub none-failed : {F : Type 0} (checks : List (Bool × F)) → first_failed checks ≡ None → AllByRecursion (λ check. check.0 ≡ true) checks
none-failed [] none = tt
none-failed ((true, f) ∷ checks) none = (refl, none-failed checks none)
none-failed ((false, f) ∷ checks) none = cc

pub neither : {F : Type 0} (a b : Option F) → option_or a b ≡ None → (a ≡ None) × (b ≡ None)
neither None b none = (refl, none)
neither (Some f) b none = cc

-- ---- records of a kind

kind-is : (k : RecordKind) (o : Option RecordKind) → is_kind k o ≡ true → o ≡ Some k
kind-is kind.Category (Some kind.Category) e = refl
kind-is kind.Bidder (Some kind.Bidder) e = refl
kind-is kind.Pool (Some kind.Pool) e = refl
kind-is kind.Member (Some kind.Member) e = refl
kind-is k o e = cc

module _ (v : Version) (k : RecordKind) where
  -- what a record of the kind has that is without a fault after others, all of them have
  pub each-of-kind : (P : Record → Type 0) → ((place : ℕ) (before : List Record) (r : Record) → record_kind v r ≡ Some k
      → fault_of_entry v place before r ≡ [] → P r) → (place : ℕ) (before more : List Record)
      → all_faults (fault_of_entry v) place before more ≡ [] → AllByRecursion P (of_kind v k more)
  unfolding all_faults
  each-of-kind P has place before [] none = tt
  each-of-kind P has place before (r ∷ more) none =
      let both = both-none (fault_of_entry v place before r) _ none in
      let free = both.0 in
      let none_more : all_faults (fault_of_entry v) (place + 1) (before ++ r ∷ []) more ≡ [] = rw free at both.1 in
      let rest = each-of-kind P has (place + 1) (before ++ r ∷ []) more none_more in
      elim (cases_Bool (is_kind k (record_kind v r))) [ inl is ↦ rw is (has place before r (kind-is k (record_kind v r) is) free, rest) | inr is ↦ rw is rest ]

  -- where there is room for a record of the kind after others, there are at most so many
  pub few-of-kind : (most : ℕ) → ((place : ℕ) (before : List Record) (r : Record) → record_kind v r ≡ Some k
      → fault_of_entry v place before r ≡ [] → length (of_kind v k before) < most) → (place : ℕ) (before more : List Record)
      → all_faults (fault_of_entry v) place before more ≡ [] → length (of_kind v k before) ≤ most → length (of_kind v k (before ++ more)) ≤ most
  unfolding all_faults
  few-of-kind most room place before [] none few = rw (append-nil before) few
  few-of-kind most room place before (r ∷ more) none few =
      let both = both-none (fault_of_entry v place before r) _ none in
      let free = both.0 in
      let none_more : all_faults (fault_of_entry v) (place + 1) (before ++ r ∷ []) more ≡ [] = rw free at both.1 in
      let grows = ap length (filter-append (λ q. is_kind k (record_kind v q)) before (r ∷ [])) ∙ length-append (of_kind v k before) (of_kind v k (r ∷ [])) in
      let grown : length (of_kind v k (before ++ r ∷ [])) ≤ most = elim (cases_Bool (is_kind k (record_kind v r))) [
        | inl is ↦ (
            let below = room place before r (kind-is k (record_kind v r) is) free in
            let one : length (of_kind v k (r ∷ [])) ≡ 1 = rw is refl in
            omega arith)
        | inr is ↦ (let no_more : length (of_kind v k (r ∷ [])) ≡ 0 = rw is refl in omega arith)
      ] in
      subst (λ (rs : List Record). length (of_kind v k rs) ≤ most) (append_assoc before (r ∷ []) more)
      (few-of-kind most room (place + 1) (before ++ r ∷ []) more none_more grown)

-- ---- rules that are parsed

-- a value of faults is there where there are none
first-parsed : {A F : Type 0} (faults : List (Fault F)) (value x : A) → first_or faults value ≡ Ok x → (faults ≡ []) × (value ≡ x)
first-parsed [] value x parsed = (refl, cc parsed)
first-parsed (fault ∷ faults) value x parsed = cc parsed

-- what rules have that are made of records without a fault, rules have that records describe
module _ (P : Terms → Type 0) (made : (v : Version) (more : List Record) → all_faults (fault_of_entry v) 2 [] more ≡ [] → (step : ℕ) → P
    (terms_of step (entries_of v more))) where
  pub rules-parsed : (records : List Record) (t : Terms) → rules_of_records records ≡ Ok t → P t
  rules-parsed [] t parsed = cc
  rules-parsed (header ∷ more) t parsed = by (version_of header) parsed
    where
      by : (o : Option Version) → option_map_or (λ v. first_or (faults_of_version header more v) (terms_of_version header more v)) o (Err (rules_fault.Header 1))
          ≡ Ok t → P t
      by None parsed = cc parsed
      by (Some v) parsed =
          let (none, is) = first-parsed (faults_of_version header more v) (terms_of_version header more v) t parsed in
          let front = or_else-none (faults_of_records v header more) (fault_of (end_checks (length more + 1) (entries_of v more))) none in
          let entries = both-none (fault_of (header_checks v header)) (all_faults (fault_of_entry v) 2 [] more) front.0 in
          subst P is (made v more entries.1 (field_number 3 header))
