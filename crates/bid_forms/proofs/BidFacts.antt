-- A record without a fault is one that describes a bid, and the other way round.
use Rattle.std.proofs.Common.{◌≡◌, ◌≢◌, ◌∙◌, ◌+◌, ◌≤◌, ◌<◌, ◌∷◌, ◌++◌, Bool, true, false, ℕ, List, [], Option, Some, None, arith, drop, length, map, refl, sym}
use Rattle.std.proofs.Common.{◌==◌, ◌%◌, ◌&&◌, is_some, is_none, nat_le, nat_lt, not, eq-eqb, eqb-true, leb-true, All}
use Rattle.std.specs.Bool.{MatchBool}
use Rattle.std.specs.List.{list_all}
use Rattle.std.specs.Prelude.{codes}
use Rattle.std.proofs.lemmas.Bool.{and_parts, false≢true, le-ltb, lt-ltb, ltb-true}
use Rattle.std.proofs.lemmas.List.{length-drop, length-map}
use Rattle.std.proofs.lemmas.List.Folds.{list_all-map}
use Rattle.std.proofs.lemmas.List.Sums.{AllPass-from_list_all}
use Rattle.csv.specs.Records.{field_at}
use Rattle.auction_terms.proofs.AcceptedFacts.{both-none, or_else-none}
use Rattle.auction_terms.proofs.JudgeFacts.{holds-both, holds-none, none-failed}
use Rattle.auction_terms.specs.AllFaults.{accepted_with, or_else}
use Rattle.auction_terms.specs.FirstFault.{first_failed}
use Rattle.auction_terms.specs.Judged.{Fault, HoldsMore, fault_at, fault_of, fault_of_whole}
use Rattle.auction_terms.specs.Numbers.{number_of}
use Rattle.auction_terms.specs.Records.{Record}
use Rattle.auction_terms.specs.RulesText.{field_number, is_between, parsed_numeral, record_field}
use Rattle.auction_terms.specs.Terms.{AreTerms, Terms}
use Rattle.auction_terms.specs.declared.bids.Bid.{Bid}
use Rattle.auction_terms.specs.declared.judge.All.{All as Held}
use Rattle.auction_terms.specs.declared.limits.TheConstants.{GREATEST_AMOUNT, GREATEST_QUANTITY, MOST_BIDS}
use Rattle.bid_forms.specs.AcceptedForms.{IsBidRecord}
use Rattle.bid_forms.specs.FormText.{amount_checks, bid_faults, count_checks, field_faults, form_room_checks, is_number_text, is_small_text}
use Rattle.auction_terms.specs.Causes.{limits_cause, most_cause}
use Rattle.bid_forms.specs.FormText.{package_checks, package_faults, parsed_bid, quantity_faults, repeat_checks, reserve_checks}
use Rattle.bid_forms.proofs.HeaderFacts.{passed}
use Rattle.bid_forms.proofs.RecordFacts.{has_quantities}
use Rattle.bid_forms.specs.declared.form_text.FormFault.{FormFault}
use Rattle.bid_forms.specs.declared.form_text.FormFault.TheVariants as fault
use Rattle.bid_forms.specs.Offers.{IsBidWithinLimits, is_bid_under, number_of_package, points_of, reserve_of}
use Rattle.bid_forms.proofs.PackageFacts.{differ-none, number-differ}

-- ---------- fields ----------

-- no field has a fault exactly where each passes the test
pub fields-pass : (test : List ℕ → Bool) (f : FormFault) (cause : List ℕ) (n : ℕ) (texts : List (List ℕ)) → field_faults test f cause n texts ≡ []
    → list_all test texts ≡ true
fields-pass test f cause n [] none = refl
fields-pass test f cause n (text ∷ texts) none =
    let both = both-none (fault_of ((test text, fault_at n text f cause) ∷ [])) (field_faults test f cause (n + 1) texts) none in
    let first = passed (test text) _ None (none-failed ((test text, fault_at n text f cause) ∷ []) both.0) in
    rw (first.0, fields-pass test f cause (n + 1) texts both.1) refl

pub pass-fields : (test : List ℕ → Bool) (f : FormFault) (cause : List ℕ) (n : ℕ) (texts : List (List ℕ)) → list_all test texts ≡ true
    → field_faults test f cause n texts ≡ []
pass-fields test f cause n [] pass = refl
pass-fields test f cause n (text ∷ texts) pass =
    let both = and_parts (test text) (list_all test texts) pass in
    rw (both.0, pass-fields test f cause (n + 1) texts both.1) refl

abbrev texts_of : ℕ → Record → List (Fault FormFault)
texts_of place r = field_faults is_number_text (fault.QuantityText place) (codes "isn't 1 to 18 digits") 2 (drop 1 r)

abbrev ranges_of : ℕ → Record → List (Fault FormFault)
ranges_of place r = field_faults is_small_text (fault.QuantityRange place) (limits_cause 0 GREATEST_QUANTITY) 2 (drop 1 r)

pub quantities-pass : (place : ℕ) (r : Record) → quantity_faults place r ≡ [] → has_quantities r ≡ true
quantities-pass place r none =
    let both = both-none (texts_of place r) (ranges_of place r) none in
    rw (fields-pass is_number_text _ _ 2 (drop 1 r) both.0, fields-pass is_small_text _ _ 2 (drop 1 r) both.1) refl

pub pass-quantities : (place : ℕ) (r : Record) → has_quantities r ≡ true → quantity_faults place r ≡ []
pass-quantities place r pass =
    let both = and_parts (list_all is_number_text (drop 1 r)) (list_all is_small_text (drop 1 r)) pass in
    rw (
      pass-fields is_number_text (fault.QuantityText place) (codes "isn't 1 to 18 digits") 2 (drop 1 r) both.0,
      pass-fields is_small_text (fault.QuantityRange place) (limits_cause 0 GREATEST_QUANTITY) 2 (drop 1 r) both.1,
    ) refl

-- where a quantity has a fault, nothing rests on there being none
pub or_else-some : {F : Type 0} (some others : List F) → some ≢ [] → or_else some others ≡ some
or_else-some [] others are = absurd (are refl)
or_else-some (f ∷ more) others are = refl

pub quantities-fail : (place : ℕ) (r : Record) → has_quantities r ≡ false → quantity_faults place r ≢ []
quantities-fail place r fails none = absurd (false≢true (sym fails ∙ quantities-pass place r none))

-- ---------- a record ----------

-- a record with a field for the amount and one for each category gives a quantity for each category
one-for-each : (r : Record) (n : ℕ) → length r ≡ n + 1 → length (map parsed_numeral (drop 1 r)) ≡ n
one-for-each r n e = length-map (drop 1 r) parsed_numeral ∙ (let cut = length-drop 1 r in omega (arith, e, cut))

-- of a record with fields the first one is by itself
first-field : (test : List ℕ → Bool) (r : Record) → 1 ≤ length r → list_all test r ≡ (test (record_field 1 r) && list_all test (drop 1 r))
unfolding field_at
first-field test [] some = absurd (omega arith)
first-field test (text ∷ texts) some = refl

-- what the rules ask of a bid, one after the other
seven : (a b c d e f g : Bool) → (a && b && c && d && e && f && g) ≡ true
    → (a ≡ true) × (b ≡ true) × (c ≡ true) × (d ≡ true) × (e ≡ true) × (f ≡ true) × (g ≡ true)
seven true true true true true true true all = (refl, refl, refl, refl, refl, refl, refl)
seven false b c d e f g all = cc all
seven true false c d e f g all = cc all
seven true true false d e f g all = cc all
seven true true true false e f g all = cc all
seven true true true true false f g all = cc all
seven true true true true true false g all = cc all
seven true true true true true true false all = cc all

abbrev pub Allowed : Terms → ℕ → Bid → Type 0
Allowed t eligibility bid =
    ((length bid.package == length t.categories) ≡ true) × (is_between 1 GREATEST_AMOUNT bid.amount ≡ true) × ((bid.amount % t.step == 0) ≡ true)
    × (list_all (λ quantity. nat_le quantity GREATEST_QUANTITY) bid.package ≡ true) × (not (list_all (λ quantity. quantity == 0) bid.package) ≡ true)
    × (nat_le (points_of t.categories bid.package) eligibility ≡ true) × (nat_le (reserve_of t.categories bid.package) bid.amount ≡ true)

pub allowed-parts : (t : Terms) (eligibility : ℕ) (bid : Bid) → is_bid_under t eligibility bid ≡ true → Allowed t eligibility bid
allowed-parts t eligibility bid is =
    seven (length bid.package == length t.categories) (is_between 1 GREATEST_AMOUNT bid.amount) (bid.amount % t.step == 0)
    (list_all (λ quantity. nat_le quantity GREATEST_QUANTITY) bid.package) (not (list_all (λ quantity. quantity == 0) bid.package))
    (nat_le (points_of t.categories bid.package) eligibility) (nat_le (reserve_of t.categories bid.package) bid.amount) is

pub bid-passes : (t : Terms) (eligibility place : ℕ) (before : List Bid) (r : Record) → bid_faults t eligibility place before r ≡ []
    → IsBidRecord t eligibility before r
bid-passes t eligibility place before r none =
    let lots = (parsed_bid r).package in
    let amount = field_number 1 r in
    let count = or_else-none (fault_of (count_checks t.categories place r)) _ none in
    let amounts = both-none (fault_of (amount_checks t.step place r)) _ count.1 in
    let last = both-none (or_else (quantity_faults place r) _) (fault_of (form_room_checks place before)) amounts.1 in
    let quantities = or_else-none (quantity_faults place r) _ last.0 in
    let known = none-failed (amount_checks t.step place r) amounts.0 in
    let of_package = both-none (fault_of (package_checks t.categories eligibility place lots)) _ (rw known at quantities.1) in
    let of_reserve = both-none (fault_of (reserve_checks t.categories place lots r)) (fault_of (repeat_checks place before lots)) of_package.1 in
    let fields = eqb-true _ _ (passed (length r == length t.categories + 1) _ _ (none-failed (count_checks t.categories place r) count.0)).0 in
    let text = passed (is_some (number_of (record_field 1 r))) _ _ known in
    let range = passed (is_between 1 GREATEST_AMOUNT amount) _ _ text.1 in
    let step = passed (amount % t.step == 0) _ _ range.1 in
    let each = and_parts (list_all is_number_text (drop 1 r)) (list_all is_small_text (drop 1 r)) (quantities-pass place r quantities.0) in
    let some = passed (not (list_all (λ quantity. quantity == 0) lots)) _ _
    (none-failed (package_checks t.categories eligibility place lots) of_package.0) in
    let points = passed (nat_le (points_of t.categories lots) eligibility) _ _ some.1 in
    let reserve = passed (nat_le (reserve_of t.categories lots) amount) _ _ (none-failed (reserve_checks t.categories place lots r) of_reserve.0) in
    let new = passed (is_none (number_of_package lots before)) _ _ (none-failed (repeat_checks place before lots) of_reserve.1) in
    let room = passed (nat_lt (length before) MOST_BIDS) _ _ (none-failed (form_room_checks place before) last.1) in
    let sized : (length lots == length t.categories) ≡ true = eq-eqb _ _ (one-for-each r (length t.categories) fields) in
    let small : list_all (λ (quantity : ℕ). nat_le quantity GREATEST_QUANTITY) lots ≡ true = list_all-map (λ quantity. nat_le quantity GREATEST_QUANTITY) parsed_numeral (drop 1 r) ∙ each.1 in
    record {
      fields = fields;
      numbers = rw (first-field is_number_text r (omega arith), text.0, each.0) refl;
      allowed = rw (sized, range.0, step.0, small, some.0, points.0, reserve.0) refl;
      new = λ k d low. number-differ 1 (parsed_bid r) before (none-is (number_of_package lots before) new.0) k d low;
      room = ltb-true _ _ room.0;
    }
  where
    none-is : (o : Option ℕ) → is_none o ≡ true → o ≡ None
    none-is None is = refl
    none-is (Some n) is = cc is

pub passes-bid : (t : Terms) (eligibility place : ℕ) (before : List Bid) (r : Record) → IsBidRecord t eligibility before r
    → bid_faults t eligibility place before r ≡ []
passes-bid t eligibility place before r is =
    let lots = (parsed_bid r).package in
    let amount = field_number 1 r in
    let wide = is.fields in
    let count : (length r == length t.categories + 1) ≡ true = eq-eqb _ _ is.fields in
    let numbers : (is_number_text (record_field 1 r) && list_all is_number_text (drop 1 r)) ≡ true = sym (first-field is_number_text r (omega arith)) ∙ is.numbers in
    let text = and_parts (is_number_text (record_field 1 r)) (list_all is_number_text (drop 1 r)) numbers in
    let (sized, range, step, each, some, points, reserve) = allowed-parts t eligibility (parsed_bid r) is.allowed in
    let small : list_all is_small_text (drop 1 r) ≡ true = sym (list_all-map (λ quantity. nat_le quantity GREATEST_QUANTITY) parsed_numeral (drop 1 r)) ∙ each in
    let amounts : first_failed (amount_checks t.step place r) ≡ None = rw (text.0, range, step) refl in
    let quantities : quantity_faults place r ≡ [] = pass-quantities place r (rw (text.1, small) refl) in
    let new : number_of_package lots before ≡ None = differ-none 1 (parsed_bid r) before is.new in
    let room : nat_lt (length before) MOST_BIDS ≡ true = lt-ltb (length before) MOST_BIDS is.room in
    rw (count, amounts, quantities, some, points, reserve, new, room) refl

-- the faults of a record, one part after the other
pub bid-told : (t : Terms) (eligibility place : ℕ) (before : List Bid) (r : Record) (first second third fourth : Held FormFault)
    → first_failed (count_checks t.categories place r) ≡ None → HoldsMore first second (fault_of (amount_checks t.step place r))
    → HoldsMore second third (or_else (quantity_faults place r) (package_faults t eligibility place before r))
    → HoldsMore third fourth (fault_of (form_room_checks place before)) → HoldsMore first fourth (bid_faults t eligibility place before r)
bid-told t eligibility place before r first second third fourth count amounts quantities room =
    rw count (holds-both first second fourth _ _ amounts (holds-both second third fourth _ _ quantities room))

-- the same, where there is room
pub bid-told-roomy : (t : Terms) (eligibility place : ℕ) (before : List Bid) (r : Record) (first second third : Held FormFault)
    → first_failed (count_checks t.categories place r) ≡ None → first_failed (form_room_checks place before) ≡ None
    → HoldsMore first second (fault_of (amount_checks t.step place r))
    → HoldsMore second third (or_else (quantity_faults place r) (package_faults t eligibility place before r))
    → HoldsMore first third (bid_faults t eligibility place before r)
bid-told-roomy t eligibility place before r first second third count room amounts quantities =
    bid-told t eligibility place before r first second third third count amounts quantities (rw room (holds-none third))

-- a record whose amount or quantities have a fault has one
pub bid-refused : (t : Terms) (eligibility place : ℕ) (before : List Bid) (r : Record) → first_failed (amount_checks t.step place r) ≢ None
    → bid_faults t eligibility place before r ≢ []
bid-refused t eligibility place before r some none =
    let count = or_else-none (fault_of (count_checks t.categories place r)) _ none in
    let amounts = both-none (fault_of (amount_checks t.step place r)) _ count.1 in
    some (none-failed (amount_checks t.step place r) amounts.0)

pub package-refused : (t : Terms) (eligibility place : ℕ) (before : List Bid) (r : Record)
    → or_else (quantity_faults place r) (package_faults t eligibility place before r) ≢ [] → bid_faults t eligibility place before r ≢ []
package-refused t eligibility place before r some none =
    let count = or_else-none (fault_of (count_checks t.categories place r)) _ none in
    let amounts = both-none (fault_of (amount_checks t.step place r)) _ count.1 in
    let last = both-none (or_else (quantity_faults place r) (package_faults t eligibility place before r)) (fault_of (form_room_checks place before)) amounts.1 in
    some last.0

pub bid-accepted : (t : Terms) (eligibility place : ℕ) (before : List Bid) (r : Record) → first_failed (count_checks t.categories place r) ≡ None
    → first_failed (amount_checks t.step place r) ≡ None → or_else (quantity_faults place r) (package_faults t eligibility place before r) ≡ []
    → first_failed (form_room_checks place before) ≡ None → bid_faults t eligibility place before r ≡ []
bid-accepted t eligibility place before r count amounts quantities room = rw (count, quantities, amounts, room) refl

-- a record with a fault leaves the bids as they are
pub accepted-refused : {R F : Type 0} (own : List F) (accepted : List R) (item : R) → own ≢ [] → accepted_with own accepted item ≡ accepted
accepted-refused [] accepted item some = absurd (some refl)
accepted-refused (f ∷ more) accepted item some = refl

-- ---------- what follows for bids ----------

-- a bid that the rules allow is within the limits
pub allowed-within : (t : Terms) (eligibility : ℕ) (bid : Bid) → AreTerms t → is_bid_under t eligibility bid ≡ true → IsBidWithinLimits bid
allowed-within t eligibility bid terms allowed =
    let (sized, range, step, each, some_lot, points, reserve) = allowed-parts t eligibility bid allowed in
    let amount = and_parts (nat_le 1 bid.amount) (nat_le bid.amount GREATEST_AMOUNT) range in
    let many = eqb-true (length bid.package) (length t.categories) sized in
    let some = terms.some_category in
    let few = terms.limits.category_count in
    record {
      quantities = record { some = omega arith; few = omega arith; each = all-small bid.package each };
      some_amount = leb-true 1 bid.amount amount.0;
      amount = leb-true bid.amount GREATEST_AMOUNT amount.1;
    }
  where
    all-small : (lots : List ℕ) → list_all (λ (quantity : ℕ). nat_le quantity GREATEST_QUANTITY) lots ≡ true → All (λ quantity. quantity ≤ GREATEST_QUANTITY) lots
    all-small lots pass k d low = leb-true _ _ (AllPass-from_list_all (λ quantity. nat_le quantity GREATEST_QUANTITY) lots pass k d low)

-- three lists of faults are empty together where each is
pub none-of-three : {F : Type 0} (x y z : Bool) (first second third : List F) → MatchBool x (first ≡ []) (first ≢ [])
    → MatchBool y (second ≡ []) (second ≢ []) → MatchBool z (third ≡ []) (third ≢ [])
    → MatchBool (x && y && z) (first ++ (second ++ third) ≡ []) (first ++ (second ++ third) ≢ [])
none-of-three true true true first second third one two three = rw (one, two, three) refl
none-of-three true true false first second third one two three = λ e. three (both-none second third (both-none first (second ++ third) e).1).1
none-of-three true false z first second third one two three = λ e. two (both-none second third (both-none first (second ++ third) e).1).0
none-of-three false y z first second third one two three = λ e. one (both-none first (second ++ third) e).0

-- what isn't none
pub some-is : {A : Type 0} (found : Option A) → found ≢ None → is_none found ≡ false
some-is None some = absurd (some refl)
some-is (Some value) some = refl

-- a record with a field for the amount and one for each category passes the check of its fields, and one with room after those before it that of room
pub count-passes : (t : Terms) (place : ℕ) (r : Record) → length r ≡ length t.categories + 1 → first_failed (count_checks t.categories place r) ≡ None
count-passes t place r is = rw (eq-eqb (length r) (length t.categories + 1) is) refl

pub room-passes : (place : ℕ) (before : List Bid) → length before < MOST_BIDS → first_failed (form_room_checks place before) ≡ None
room-passes place before room = rw (lt-ltb (length before) MOST_BIDS room) refl

pub room-fails : (place : ℕ) (before : List Bid) → MOST_BIDS ≤ length before
    → fault_of (form_room_checks place before) ≡ fault_of_whole (fault.TooManyBids place) (Some (most_cause MOST_BIDS (codes " bids"))) ∷ []
room-fails place before full = rw (le-ltb (length before) MOST_BIDS full) refl

-- and where it has none, the record has a fault
pub room-refused : (t : Terms) (eligibility place : ℕ) (before : List Bid) (r : Record) → MOST_BIDS ≤ length before
    → bid_faults t eligibility place before r ≢ []
room-refused t eligibility place before r full none =
    let count = or_else-none (fault_of (count_checks t.categories place r)) _ none in
    let amounts = both-none (fault_of (amount_checks t.step place r)) _ count.1 in
    let last = both-none (or_else (quantity_faults place r) (package_faults t eligibility place before r)) (fault_of (form_room_checks place before)) amounts.1 in
    let room = sym (room-fails place before full) ∙ last.1 in
    cc room
