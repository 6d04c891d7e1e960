-- The lots that an input describes are within the limits.
use Rattle.std.proofs.Common.{◌≡◌, ◌≤◌, ◌<◌, ◌∷◌, [], ℕ, Bool, List, Some, Ok, arith, length, map, find, inl, inr}
use Rattle.std.specs.List.{AllByRecursion}
use Rattle.std.specs.Option.{option_map_or}
use Rattle.std.proofs.lemmas.Bool.{cases_Bool}
use Rattle.std.proofs.lemmas.List.{length-map}
use Rattle.auction_terms.specs.Entries.{is_member_of, pool_with, terms_of}
use Rattle.auction_terms.proofs.AcceptedRulesFacts.{kind-holds}
use Rattle.auction_terms.specs.AllFaults.{all_faults}
use Rattle.auction_terms.specs.Limits.{IsLots, IsWeightedCap}
use Rattle.auction_terms.specs.Records.{Record}
use Rattle.auction_terms.specs.RulesText.{category_of, entries_of, fault_of_entry, field_number, parsed_numeral}
use Rattle.auction_terms.specs.RulesText.{of_kind, record_kind, value_text}
use Rattle.auction_terms.specs.inside.RulesText.{member_of, pool_of}
use Rattle.auction_terms.specs.Terms.{Terms, lots_in}
use Rattle.auction_terms.specs.inside.Terms.{cap_of}
use Rattle.auction_terms.specs.declared.limits.TheConstants.{GREATEST_AMOUNT, GREATEST_QUANTITY, GREATEST_VALUE, GREATEST_WEIGHT, MOST_CATEGORIES, MOST_POOLS}
use Rattle.auction_terms.specs.declared.record_kinds.RecordKind.TheVariants as kind
use Rattle.auction_terms.specs.declared.record_kinds.Version.{Version}
use Rattle.auction_terms.specs.declared.rules.Category.{Category}
use Rattle.auction_terms.specs.declared.draft.Member.{Member}
use Rattle.auction_terms.specs.declared.rules_text.RulesFault.TheVariants as rules_fault
use Rattle.auction_input.specs.ParsedTexts.{parsed_terms}
use Rattle.auction_input.proofs.AnswerFacts.{ok-refused_as}
use Rattle.auction_input.proofs.LimitFacts.{unless-large}
use Rattle.auction_input.proofs.RecordFacts.{each-of-kind, few-of-kind, rules-parsed}

-- ---- a record without a fault

record IsCategoryRecord (v : Version) (r : Record) : Type 0 where
  supply : field_number 3 r ≤ GREATEST_QUANTITY
  value : parsed_numeral (value_text v r) ≤ GREATEST_VALUE

category-checks : (v : Version) (place : ℕ) (before : List Record) (r : Record) → record_kind v r ≡ Some kind.Category
    → fault_of_entry v place before r ≡ [] → IsCategoryRecord v r × (length (of_kind v kind.Category before) < MOST_CATEGORIES)
category-checks v place before r is free =
    let (name, (supply, (reserve, (points, (value, end)))), (new, room)) = kind-holds v place before r kind.Category is free in
    let count = length-map (of_kind v kind.Category before) (category_of v) in (
      record { supply = supply.2; value = value.2 },
      omega arith,
    )

pool-checks : (v : Version) (place : ℕ) (before : List Record) (r : Record) → record_kind v r ≡ Some kind.Pool
    → fault_of_entry v place before r ≡ [] → (field_number 3 r ≤ GREATEST_AMOUNT) × (length (of_kind v kind.Pool before) < MOST_POOLS)
pool-checks v place before r is free =
    let (name, (cap, end), (new, room)) = kind-holds v place before r kind.Pool is free in
    let count = length-map (of_kind v kind.Pool before) pool_of in
    (cap.2, omega arith)

member-checks : (v : Version) (place : ℕ) (before : List Record) (r : Record) → record_kind v r ≡ Some kind.Member
    → fault_of_entry v place before r ≡ [] → field_number 4 r ≤ GREATEST_WEIGHT
member-checks v place before r is free =
    let (names, (weight, end), goes) = kind-holds v place before r kind.Member is free in
    weight.2

-- ---- what records without a fault make

-- what holds of each element holds of each value that is made of one
each-made : {X Y : Type 0} (P : X → Type 0) (Q : Y → Type 0) (f : X → Y) → ((x : X) → P x → Q (f x)) → (xs : List X) → AllByRecursion P xs
    → AllByRecursion Q (map f xs)
each-made P Q f made [] h = tt
each-made P Q f made (x ∷ xs) h = (made x h.0, each-made P Q f made xs h.1)

-- the weight of a category that a member names, and of one that none does
weight-in : (test : Member → Bool) (members : List Member) → AllByRecursion (λ (member : Member). member.weight ≤ GREATEST_WEIGHT) members
    → option_map_or (λ (member : Member). member.weight) (find test members) 0 ≤ GREATEST_WEIGHT
weight-in test [] h = omega arith
weight-in test (member ∷ members) h = elim (cases_Bool (test member)) [ inl is ↦ rw is h.0 | inr is ↦ rw is (weight-in test members h.1) ]

weights-in : (members : List Member) (pool : List ℕ) (categories : List Category)
    → AllByRecursion (λ (member : Member). member.weight ≤ GREATEST_WEIGHT) members
    → AllByRecursion (λ n. n ≤ GREATEST_WEIGHT) (map (λ (category : Category). option_map_or (λ (member : Member). member.weight)
    (find (is_member_of pool category.name) members) 0) categories)
weights-in members pool [] h = tt
weights-in members pool (category ∷ categories) h = (weight-in (is_member_of pool category.name) members h, weights-in members pool categories h)

small-pools : (categories : List Category) (members : List Member)
    → AllByRecursion (λ (member : Member). member.weight ≤ GREATEST_WEIGHT) members → (records : List Record)
    → AllByRecursion (λ r. field_number 3 r ≤ GREATEST_AMOUNT) records
    → AllByRecursion IsWeightedCap (map cap_of (map (pool_with categories members) (map pool_of records)))
small-pools categories members small [] h = tt
small-pools categories members small (r ∷ records) h = (
  record {
    cap = h.0;
    weights = weights-in members (pool_of r).name categories small;
  },
  small-pools categories members small records h.1,
)

made-lots : (v : Version) (more : List Record) → all_faults (fault_of_entry v) 2 [] more ≡ [] → (step : ℕ) → IsLots (lots_in (terms_of step (entries_of v more)))
made-lots v more none step =
    let categories = of_kind v kind.Category more in
    let pools = of_kind v kind.Pool more in
    let few = few-of-kind v kind.Category MOST_CATEGORIES (λ place before r is free. (category-checks v place before r is free).1) 2 [] more none (omega arith) in
    let few_pools = few-of-kind v kind.Pool MOST_POOLS (λ place before r is free. (pool-checks v place before r is free).1) 2 [] more none (omega arith) in
    let each = each-of-kind v kind.Category (IsCategoryRecord v) (λ place before r is free. (category-checks v place before r is free).0) 2 [] more none in
    let caps = each-of-kind v kind.Pool (λ r. field_number 3 r ≤ GREATEST_AMOUNT) (λ place before r is free. (pool-checks v place before r is free).0) 2 [] more none in
    let weights = each-made _ (λ (member : Member). member.weight ≤ GREATEST_WEIGHT) member_of (λ r h. h) _
    (each-of-kind v kind.Member (λ r. field_number 4 r ≤ GREATEST_WEIGHT) (member-checks v) 2 [] more none) in
    let parsed = length-map categories (category_of v) in
    let count = length-map (map (category_of v) categories) (λ (category : Category). category.supply) in
    let parsed_pools = length-map pools pool_of in
    let named_pools = length-map (map pool_of pools) (pool_with (entries_of v more).categories (entries_of v more).members) in
    let pool_count = length-map (terms_of step (entries_of v more)).pools cap_of in
    record {
      categories = omega arith;
      supplies = each-made _ _ (λ (category : Category). category.supply) (λ _ h. h) _
          (each-made _ (λ (category : Category). category.supply ≤ GREATEST_QUANTITY) (category_of v) (λ r h. h.supply) categories each);
      values = each-made _ _ (λ (category : Category). category.value) (λ _ h. h) _
          (each-made _ (λ (category : Category). category.value ≤ GREATEST_VALUE) (category_of v) (λ r h. h.value) categories each);
      few_pools = omega arith;
      pools = small-pools (entries_of v more).categories (entries_of v more).members weights pools caps;
    }

-- ---- what an input describes

pub lots-within : (text : List ℕ) (t : Terms) → parsed_terms text ≡ Ok t → IsLots (lots_in t)
lots-within text t parsed =
    let inside = ok-refused_as _ _ t parsed in
    rules-parsed (λ u. IsLots (lots_in u)) made-lots _ t (unless-large _ rules_fault.TooLarge _ t inside)
