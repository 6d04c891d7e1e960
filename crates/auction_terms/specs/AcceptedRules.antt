-- A text of rules that is accepted: a header that gives a version and a step, and records after it, each of a kind that the version knows,
-- with its names, its numbers within their limits, and room for it after those before it.
use Rattle.std.specs.Prelude.{◌≡◌, ◌≤◌, ◌<◌, true, false, ℕ, List, [], ◌∷◌, Some, is_some, length}
use Rattle.std.specs.List.{AllByRecursion, list_any}
use Rattle.auction_terms.specs.AcceptedGroups.{Each}
use Rattle.auction_terms.specs.Entries.{Entries, is_member_of}
use Rattle.auction_terms.specs.Names.{is_name}
use Rattle.auction_terms.specs.Numbers.{number_of}
use Rattle.auction_terms.specs.Records.{Record}
use Rattle.auction_terms.specs.RulesText.{Bounded, entries_of, entry_numbers, field_count, has_name, parsed_numeral, record_field, record_kind, step_number, version_of}
use Rattle.auction_terms.specs.declared.limits.TheConstants.{MOST_BIDDERS, MOST_CATEGORIES, MOST_POOLS}
use Rattle.auction_terms.specs.declared.record_kinds.RecordKind.{RecordKind}
use Rattle.auction_terms.specs.declared.record_kinds.RecordKind.TheVariants as kind
use Rattle.auction_terms.specs.declared.record_kinds.Version.{Version}

-- a number, from the least to the greatest that it may be
abbrev pub IsNumber : Bounded → Type 0
IsNumber n = (is_some (number_of n.text) ≡ true) × (n.least ≤ parsed_numeral n.text) × (parsed_numeral n.text ≤ n.greatest)

-- the names of a record of a kind: of a member those of a pool and of a category
abbrev pub HasNames : Record → RecordKind → Type 0
HasNames r kind.Member = (is_name (record_field 2 r) ≡ true) × (is_name (record_field 3 r) ≡ true)
HasNames r k = is_name (record_field 2 r) ≡ true

-- none of these has the name of a record, and there are fewer than may be
abbrev pub IsNewAmong : {X : Type 0} → (X → List ℕ) → List X → ℕ → Record → Type 0
IsNewAmong name_of before most r = (has_name name_of before (record_field 2 r) ≡ false) × (length before < most)

-- a record of a kind goes with the entries before it: a name that is new among them, or a category and a pool of them, not together yet
abbrev pub GoesWith : Entries → Record → RecordKind → Type 0
GoesWith before r kind.Category = IsNewAmong (λ category. category.name) before.categories MOST_CATEGORIES r
GoesWith before r kind.Bidder = IsNewAmong (λ bidder. bidder.name) before.bidders MOST_BIDDERS r
GoesWith before r kind.Pool = IsNewAmong (λ pool. pool.name) before.pools MOST_POOLS r
GoesWith before r kind.Member = (list_any (is_member_of (record_field 2 r) (record_field 3 r)) before.members ≡ false)
    × (has_name (λ pool. pool.name) before.pools (record_field 2 r) ≡ true)
    × (has_name (λ category. category.name) before.categories (record_field 3 r) ≡ true)

-- a record of a kind that the version knows, after others
pub record IsEntry (v : Version) (before : List Record) (r : Record) : Type 0 where
  pub count : length r ≡ field_count v
  pub kind_of : RecordKind
  pub kind_is : record_kind v r ≡ Some kind_of
  pub names : HasNames r kind_of
  pub numbers : AllByRecursion IsNumber (entry_numbers v r kind_of)
  pub goes : GoesWith (entries_of v before) r kind_of

-- a header, and records after it, among them a category and a bidder
pub record AreRules (header : Record) (more : List Record) : Type 0 where
  pub version : Version
  pub version_is : version_of header ≡ Some version
  pub count : length header ≡ field_count version
  pub step : IsNumber (step_number header)
  pub each : Each (IsEntry version) more
  pub some_category : 1 ≤ length (entries_of version more).categories
  pub some_bidder : 1 ≤ length (entries_of version more).bidders

-- records of rules: there is a header
abbrev pub AreRulesRecords : List Record → Type 0
AreRulesRecords [] = ⊥
AreRulesRecords (header ∷ more) = AreRules header more
