-- What single records of rules describe, and their numbers.
use Rattle.std.specs.Prelude.{◌≡◌, ◌≢◌, Bool, ℕ, List, [], Option, None, Some, Ok}
use Rattle.auction_terms.specs.Entries.{Entries}
use Rattle.auction_terms.specs.Judged.{Fault}
use Rattle.auction_terms.specs.Records.{Record}
use Rattle.auction_terms.specs.RulesText.{field_number, kind_checks, parsed_numeral, record_field, rules_faults, rules_of_records, value_text}
use Rattle.auction_terms.specs.Terms.{Terms}
use Rattle.auction_terms.specs.declared.draft.Member.{Member}
use Rattle.auction_terms.specs.declared.draft.NamedCap.{NamedCap}
use Rattle.auction_terms.specs.declared.record_kinds.RecordKind.{RecordKind}
use Rattle.auction_terms.specs.declared.record_kinds.Version.{Version}
use Rattle.auction_terms.specs.declared.record_kinds.Version.TheVariants as version
use Rattle.auction_terms.specs.declared.rules.Bidder.{Bidder}
use Rattle.auction_terms.specs.declared.rules_records.BidderNumbers.{BidderNumbers}
use Rattle.auction_terms.specs.declared.rules_records.CategoryNumbers.{CategoryNumbers}
use Rattle.auction_terms.specs.declared.rules_text.RulesFault.{RulesFault}

-- the numbers of the category that a record describes
abbrev pub category_numbers : Version → Record → CategoryNumbers
category_numbers v r = record {
  supply = field_number 3 r;
  reserve = field_number 4 r;
  points = field_number 5 r;
  value = parsed_numeral (value_text v r);
}

-- the numbers of the bidder that a record describes
abbrev pub bidder_numbers : Record → BidderNumbers
bidder_numbers r = record { eligibility = field_number 3 r; sessions = field_number 4 r }

-- the bidder that a record describes: its name, its eligibility and how many sessions it has
abbrev pub bidder_of : Record → Bidder
bidder_of r = record { name = record_field 2 r; eligibility = field_number 3 r; sessions = field_number 4 r }

-- the pool that a record describes, without its weights: its name and its cap
abbrev pub pool_of : Record → NamedCap
pool_of r = record { name = record_field 2 r; cap = field_number 3 r }

-- the member that a record describes: a pool, a category in it and the weight of that category
abbrev pub member_of : Record → Member
member_of r = record { pool = record_field 2 r; category = record_field 3 r; weight = field_number 4 r }

-- the checks of a bidder, a pool or a member: those of the last version, which no other has otherwise, so that an entry of any version has them
abbrev pub checks_in_every_version : ℕ → Entries → Record → RecordKind → List (Bool × Fault RulesFault)
checks_in_every_version place before r k = kind_checks version.Three place before r k

-- rules are given just where the records of a text have no fault, and then these are what the records describe
abbrev pub GivesRules : List Record → Option Terms → Type 0
GivesRules records None = rules_faults records ≢ []
GivesRules records (Some t) = Ok t ≡ rules_of_records records
