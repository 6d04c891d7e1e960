-- A text of rules has no fault exactly if its records are those that are accepted.
use Rattle.std.proofs.Common.{◌≡◌, ◌≤◌, ◌+◌, ◌∷◌, Bool, true, false, ℕ, List, [], Option, Some, None, arith, length, refl}
use Rattle.std.proofs.lemmas.Bool.{and_parts, eq-eqb, eqb-true, le-leb, leb-true, lt-ltb, ltb-true, ne_eqb, not-true}
use Rattle.std.specs.Prelude.{◌↔◌, ◌==◌, nat_le, not}
use Rattle.std.specs.List.{AllByRecursion}
use Rattle.std.specs.Option.{option_map_or}
use Rattle.auction_terms.proofs.AcceptedFacts.{both-none, or_else-none}
use Rattle.auction_terms.proofs.JudgeFacts.{failed-none, none-failed}
use Rattle.auction_terms.proofs.NoFaultFacts.{each-none, none-each}
use Rattle.auction_terms.specs.AcceptedRules.{AreRules, AreRulesRecords, GoesWith, HasNames, IsEntry, IsNumber}
use Rattle.auction_terms.specs.AllFaults.{all_faults}
use Rattle.auction_terms.specs.Entries.{Entries}
use Rattle.auction_terms.specs.FirstFault.{first_failed}
use Rattle.auction_terms.specs.Judged.{fault_of}
use Rattle.auction_terms.specs.Records.{Record}
use Rattle.auction_terms.specs.RulesText.{Bounded, count_check, end_checks, entries_of, entry_checks, entry_numbers, fault_of_entry, faults_of_records}
use Rattle.auction_terms.specs.RulesText.{faults_of_version, header_checks, kind_checks, no_kind, field_between, parsed_numeral, range_check}
use Rattle.auction_terms.specs.RulesText.{record_kind, rules_faults, step_number, text_check, value_number, version_fault, version_of}
use Rattle.auction_terms.specs.declared.limits.TheConstants.{GREATEST_AMOUNT, GREATEST_POINTS, GREATEST_QUANTITY, GREATEST_WEIGHT, MOST_SESSIONS}
use Rattle.auction_terms.specs.declared.record_kinds.RecordKind.{RecordKind}
use Rattle.auction_terms.specs.declared.record_kinds.RecordKind.TheVariants as kind
use Rattle.auction_terms.specs.declared.record_kinds.Version.{Version}

-- ---------- checks ----------

-- each check is passed
abbrev pub AllPassed : {F : Type 0} → List (Bool × F) → Type 0
AllPassed checks = AllByRecursion (λ check. check.0 ≡ true) checks

pub all-passed : {F : Type 0} (checks : List (Bool × F)) → first_failed checks ≡ None → AllPassed checks
all-passed [] none = tt
all-passed ((true, f) ∷ checks) none = (refl, all-passed checks none)
all-passed ((false, f) ∷ checks) none = cc none

pub passed-all : {F : Type 0} (checks : List (Bool × F)) → AllPassed checks → first_failed checks ≡ None
passed-all [] passed = refl
passed-all (check ∷ checks) passed = rw passed.0 (passed-all checks passed.1)

-- a number, by its two checks
number-is : (place : ℕ) (n : Bounded) → (text_check place n).0 ≡ true → (range_check place n).0 ≡ true → IsNumber n
number-is place n text range =
    let parts = and_parts (nat_le n.least (parsed_numeral n.text)) (nat_le (parsed_numeral n.text) n.greatest) range in
    (text, leb-true _ _ parts.0, leb-true _ _ parts.1)

range-is : (place : ℕ) (n : Bounded) → IsNumber n → (range_check place n).0 ≡ true
range-is place n (text, low, high) = rw (le-leb n.least (parsed_numeral n.text) low, le-leb (parsed_numeral n.text) n.greatest high) refl

not-is : (b : Bool) → b ≡ false → not b ≡ true
not-is b is = rw is refl

-- ---------- a record ----------

module _ (v : Version) (place : ℕ) (before : Entries) (r : Record) where
  -- what a record of a kind has that passes its checks
  abbrev pub HasKind : RecordKind → Type 0
  HasKind k = HasNames r k × AllByRecursion IsNumber (entry_numbers v r k) × GoesWith before r k

  has : (k : RecordKind) → AllPassed (kind_checks v place before r k) → HasKind k
  has kind.Category (name, (a, (b, (c, (d, (low_a, (low_b, (low_c, (low_d, (new, (room, end))))))))))) =
      (name, (number-is place (field_between 3 r 0 GREATEST_QUANTITY) a low_a, (number-is place (field_between 4 r 0 GREATEST_AMOUNT) b low_b, (number-is place (field_between 5 r 0 GREATEST_POINTS) c low_c, (number-is place (value_number v r) d low_d, tt)))), (not-true _ new, ltb-true _ _ room))
  has kind.Bidder (name, (a, (b, (low_a, (low_b, (new, (room, end))))))) = (name, (number-is place (field_between 3 r 0 GREATEST_AMOUNT) a low_a, (number-is place (field_between 4 r 1 MOST_SESSIONS) b low_b, tt)), (not-true _ new, ltb-true _ _ room))
  has kind.Pool (name, (a, (low_a, (new, (room, end))))) = (name, (number-is place (field_between 3 r 0 GREATEST_AMOUNT) a low_a, tt), (not-true _ new, ltb-true _ _ room))
  has kind.Member (pool, (category, (a, (low_a, (new, (known, (sold, end))))))) = ((pool, category), (number-is place (field_between 4 r 1 GREATEST_WEIGHT) a low_a, tt), (not-true _ new, known, sold))

  passes : (k : RecordKind) → HasKind k → AllPassed (kind_checks v place before r k)
  passes kind.Category (name, (a, (b, (c, (d, end)))), (new, room)) =
      (name, (a.0, (b.0, (c.0, (d.0, (range-is place (field_between 3 r 0 GREATEST_QUANTITY) a, (range-is place (field_between 4 r 0 GREATEST_AMOUNT) b, (range-is place (field_between 5 r 0 GREATEST_POINTS) c, (range-is place (value_number v r) d, (not-is _ new, (lt-ltb _ _ room, tt)))))))))))
  passes kind.Bidder (name, (a, (b, end)), (new, room)) = (name, (a.0, (b.0, (range-is place (field_between 3 r 0 GREATEST_AMOUNT) a, (range-is place (field_between 4 r 1 MOST_SESSIONS) b, (not-is _ new, (lt-ltb _ _ room, tt)))))))
  passes kind.Pool (name, (a, end), (new, room)) = (name, (a.0, (range-is place (field_between 3 r 0 GREATEST_AMOUNT) a, (not-is _ new, (lt-ltb _ _ room, tt)))))
  passes kind.Member ((pool, category), (a, end), (new, known, sold)) = (pool, (category, (a.0, (range-is place (field_between 4 r 1 GREATEST_WEIGHT) a, (not-is _ new, (known, (sold, tt)))))))

-- a record of a kind without a fault has what its kind wants
pub kind-holds : (v : Version) (place : ℕ) (before : List Record) (r : Record) (k : RecordKind) → record_kind v r ≡ Some k
    → fault_of_entry v place before r ≡ [] → HasKind v place (entries_of v before) r k
kind-holds v place before r k is none =
    let passed : first_failed (count_check v place r ∷ kind_checks v place (entries_of v before) r k) ≡ None =
    rw is at (none-failed (entry_checks v place (entries_of v before) r) none) in
    has v place (entries_of v before) r k (all-passed (count_check v place r ∷ kind_checks v place (entries_of v before) r k) passed).1

entry-passes : (v : Version) (place : ℕ) (before : List Record) (r : Record) → fault_of_entry v place before r ≡ [] → IsEntry v before r
entry-passes v place before r none = by (record_kind v r) refl (none-failed (entry_checks v place (entries_of v before) r) none)
  where
    by : (o : Option RecordKind) → record_kind v r ≡ o
        → first_failed (count_check v place r ∷ option_map_or (kind_checks v place (entries_of v before) r) o (no_kind place r ∷ [])) ≡ None → IsEntry v before r
    by None is passed = (let all = all-passed (count_check v place r ∷ no_kind place r ∷ []) passed in cc all.1.0)
    by (Some k) is passed =
        let all = all-passed (count_check v place r ∷ kind_checks v place (entries_of v before) r k) passed in
        let kinds = has v place (entries_of v before) r k all.1 in
        record { count = eqb-true _ _ all.0; kind_of = k; kind_is = is; names = kinds.0; numbers = kinds.1; goes = kinds.2 }

passes-entry : (v : Version) (place : ℕ) (before : List Record) (r : Record) → IsEntry v before r → fault_of_entry v place before r ≡ []
passes-entry v place before r it =
    let kinds = passes v place (entries_of v before) r it.kind_of (it.names, it.numbers, it.goes) in
    let all : AllPassed (count_check v place r ∷ kind_checks v place (entries_of v before) r it.kind_of) = (eq-eqb _ _ it.count, kinds) in
    failed-none (entry_checks v place (entries_of v before) r) (rw it.kind_is (passed-all (count_check v place r ∷ kind_checks v place (entries_of v before) r it.kind_of) all))

-- ---------- the whole text ----------

some-item : {X : Type 0} (xs : List X) → not (length xs == 0) ≡ true → 1 ≤ length xs
some-item [] some = cc some
some-item (x ∷ xs) some = omega arith

item-some : {X : Type 0} (xs : List X) → 1 ≤ length xs → not (length xs == 0) ≡ true
item-some [] some = absurd (omega arith)
item-some (x ∷ xs) some = not-is _ (ne_eqb _ _ (λ e. omega (arith, e)))

version-passes : (header : Record) (more : List Record) (v : Version) → version_of header ≡ Some v → faults_of_version header more v ≡ [] → AreRules header more
version-passes header more v is none =
    let ends = or_else-none (faults_of_records v header more) (fault_of (end_checks (length more + 1) (entries_of v more))) none in
    let both = both-none (fault_of (header_checks v header)) (all_faults (fault_of_entry v) 2 [] more) ends.0 in
    let (count, (text, (range, end))) = all-passed (header_checks v header) (none-failed (header_checks v header) both.0) in
    let each = none-each (fault_of_entry v) 2 [] more both.1 in
    let last = all-passed (end_checks (length more + 1) (entries_of v more)) (none-failed (end_checks (length more + 1) (entries_of v more)) ends.1) in
    record {
      version = v;
      version_is = is;
      count = eqb-true _ _ count;
      step = number-is 1 (step_number header) text range;
      each = λ before r after at. entry-passes v (2 + length before) before r (each before r after at);
      some_category = some-item _ last.0;
      some_bidder = some-item _ last.1.0;
    }

passes-version : (header : Record) (more : List Record) (it : AreRules header more) → faults_of_version header more it.version ≡ []
passes-version header more it =
    let v = it.version in
    let own : fault_of (header_checks v header) ≡ [] = failed-none (header_checks v header) (passed-all (header_checks v header)
    (eq-eqb _ _ it.count, (it.step.0, (range-is 1 (step_number header) it.step, tt)))) in
    let entries : all_faults (fault_of_entry v) 2 [] more ≡ [] = each-none (fault_of_entry v) 2 [] more
    (λ before r after at. passes-entry v (2 + length before) before r (it.each before r after at)) in
    let ends : fault_of (end_checks (length more + 1) (entries_of v more)) ≡ [] = failed-none (end_checks (length more + 1) (entries_of v more))
    (passed-all (end_checks (length more + 1) (entries_of v more)) (item-some _ it.some_category, (item-some _ it.some_bidder, tt))) in
    rw (own, entries, ends) refl

pub none-rules : (records : List Record) → rules_faults records ≡ [] ↔ AreRulesRecords records
none-rules [] = (λ none. cc none, λ it. absurd it)
none-rules (header ∷ more) = (by (version_of header) refl, back)
  where
    by : (o : Option Version) → version_of header ≡ o → option_map_or (faults_of_version header more) o (version_fault header ∷ []) ≡ [] → AreRules header more
    by None is none = cc none
    by (Some v) is none = version-passes header more v is none

    back : AreRules header more → option_map_or (faults_of_version header more) (version_of header) (version_fault header ∷ []) ≡ []
    back it = rw it.version_is (passes-version header more it)
