-- The definitions on small texts.
use Rattle.std.proofs.Common.{◌≡◌, arith, refl}
use Rattle.std.specs.Prelude.{[], ◌∷◌, Ok, Err, codes}
use Rattle.csv.specs.Records.{field_at}
use Rattle.csv.proofs.OnLiterals.{csv_on_literals}
use Rattle.auction_terms.specs.AllFaults.{all_faults}
use Rattle.auction_terms.specs.Lines.{lines_of}
use Rattle.auction_terms.specs.Records.{records_of}
use Rattle.auction_terms.specs.RulesText.{rules_of_records}
use Rattle.auction_terms.specs.declared.rules_text.RulesFault.TheVariants as fault

lines : lines_of (97 ∷ 13 ∷ 10 ∷ 10 ∷ 98 ∷ 13 ∷ 13 ∷ []) ≡ codes "a" ∷ [] ∷ (98 ∷ 13 ∷ []) ∷ []
lines = refl

record TextsOfTheFirstVersion : Type 0 where
  -- another version than the first
  header : rules_of_records (records_of (codes "rules,7,1,,")) ≡ Err (fault.Header 1)
  no_bidder : rules_of_records (records_of (codes "rules,1,5,,\ncategory,A,2,10,1\n")) ≡ Err (fault.NoBidder 2)
  kind : rules_of_records (records_of (codes "rules,1,5,,\nlot,A,2,10,1\n")) ≡ Err (fault.Kind 2)

texts_of_the_first_version : TextsOfTheFirstVersion
unfolding all_faults csv_on_literals field_at
texts_of_the_first_version = grind arith

record TextsOfLaterVersions : Type 0 where
  valued : rules_of_records (records_of (codes "rules,2,1,,,\ncategory,A,2,10,1,40\nbidder,Alpha,9,2,,\n")) ≡ Ok (record {
    step = 1;
    categories = record { name = codes "A"; supply = 2; reserve = 10; points = 1; value = 40 } ∷ [];
    bidders = record { name = codes "Alpha"; eligibility = 9; sessions = 2 } ∷ [];
    pools = [];
  })
  five_fields : rules_of_records (records_of (codes "rules,2,1,,,\ncategory,A,2,10,1\n")) ≡ Err (fault.FieldCount 2)
  version_4 : rules_of_records (records_of (codes "rules,4,1,,,\n")) ≡ Err (fault.Header 1)
  pooled : rules_of_records
      (records_of (codes "rules,3,1,,,\ncategory,A,2,10,1,0\ncategory,B,1,5,1,0\npool,Low,2,,,\nmember,Low,B,7,,\nbidder,Alpha,9,2,,\n"))
      ≡ Ok (record {
        step = 1;
        categories = record { name = codes "A"; supply = 2; reserve = 10; points = 1; value = 0 } ∷ record
            { name = codes "B"; supply = 1; reserve = 5; points = 1; value = 0 } ∷ [];
        bidders = record { name = codes "Alpha"; eligibility = 9; sessions = 2 } ∷ [];
        pools = record { name = codes "Low"; cap = 2; weights = 0 ∷ 7 ∷ [] } ∷ [];
      })
  unknown_pool : rules_of_records
      (records_of (codes "rules,3,1,,,\ncategory,A,2,10,1,0\ncategory,B,1,5,1,0\npool,Low,2,,,\nmember,High,A,1,,\n"))
      ≡ Err (fault.NameUnknown 5)
  member_twice : rules_of_records
      (records_of (codes "rules,3,1,,,\ncategory,A,2,10,1,0\ncategory,B,1,5,1,0\npool,Low,2,,,\nmember,Low,A,1,,\nmember,Low,A,1,,\n"))
      ≡ Err (fault.NameRepeated 6)
  weightless : rules_of_records (records_of (codes "rules,3,1,,,\ncategory,A,2,10,1,0\npool,Low,2,,,\nmember,Low,A,0,,\n")) ≡ Err (fault.NumberRange 4)
  pool_in_version_2 : rules_of_records (records_of (codes "rules,2,1,,,\ncategory,A,2,10,1,0\ncategory,B,1,5,1,0\npool,Low,2,,,\n")) ≡ Err (fault.Kind 4)

texts_of_later_versions : TextsOfLaterVersions
unfolding all_faults csv_on_literals field_at
texts_of_later_versions = grind arith
