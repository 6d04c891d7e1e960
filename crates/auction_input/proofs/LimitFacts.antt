-- The book that an input leaves is within the limits.
use Rattle.std.proofs.Common.{◌≡◌, ◌≤◌, ◌<◌, ◌+◌, ◌==◌, ◌++◌, ◌∷◌, ◌∙◌, [], ℕ, zero, suc, Bool, true, false, List, Option}
use Rattle.std.proofs.Common.{None, Some, Result, Ok, Err, ap, append_assoc, arith, eqb-true, leb-true}
use Rattle.std.proofs.Common.{length, length-append, map, refl, subst, sym, cond, filter, nat_le, inl, inr}
use Rattle.std.specs.List.{AllByRecursion, last_or, list_all, range_with_len}
use Rattle.std.proofs.lemmas.Bool.{and_parts, cases_Bool}
use Rattle.std.proofs.lemmas.List.{append-nil, length-map}
use Rattle.std.proofs.lemmas.List.FromFn.{length-map-range_with_len}
use Rattle.auction_terms.specs.AcceptedGroups.{Each}
use Rattle.auction_terms.specs.Entries.{terms_of}
use Rattle.auction_terms.proofs.AcceptedRulesFacts.{kind-holds}
use Rattle.auction_terms.specs.AllFaults.{all_faults}
use Rattle.auction_terms.specs.Limits.{IsBid, IsBook}
use Rattle.auction_terms.specs.Packages.{Lots}
use Rattle.auction_terms.specs.Records.{Record}
use Rattle.auction_terms.specs.RulesText.{entries_of, fault_of_entry, of_kind, record_kind}
use Rattle.auction_terms.specs.inside.RulesText.{bidder_of}
use Rattle.auction_terms.specs.Terms.{Terms, lots_in}
use Rattle.auction_terms.specs.declared.bids.Bid.{Bid}
use Rattle.auction_terms.specs.declared.limits.TheConstants.{GREATEST_QUANTITY, MOST_BIDDERS, MOST_BIDS}
use Rattle.auction_terms.specs.declared.record_kinds.RecordKind.TheVariants as kind
use Rattle.auction_terms.specs.declared.record_kinds.Version.{Version}
use Rattle.auction_terms.specs.declared.rules_text.RulesFault.TheVariants as rules_fault
use Rattle.bid_desk.specs.Closing.{bids_in}
use Rattle.bid_forms.proofs.AcceptedFormsFacts.{parsed-described}
use Rattle.bid_forms.proofs.BidFacts.{allowed-parts}
use Rattle.bid_forms.specs.AcceptedForms.{IsBidRecord}
use Rattle.bid_forms.specs.FormText.{parsed_bid, form_of_records}
use Rattle.bid_forms.specs.Offers.{Offers, eligibility_of}
use Rattle.bid_forms.specs.declared.form_text.FormFault.TheVariants as form_fault
use Rattle.auction_input.specs.BookLeft.{sale_left}
use Rattle.auction_terms.specs.Stages.{each_in_turn}
use Rattle.auction_input.specs.Submissions.{forms_of}
use Rattle.auction_input.specs.ParsedTexts.{parsed_form, parsed_terms}
use Rattle.auction_input.proofs.AnswerFacts.{ok-after, ok-is, ok-refused_as}
use Rattle.auction_input.proofs.RecordFacts.{few-of-kind, rules-parsed}

-- ---- rules

-- after records of bidders there is room for the one that has no fault
bidder-room : (v : Version) (place : ℕ) (before : List Record) (r : Record) → record_kind v r ≡ Some kind.Bidder
    → fault_of_entry v place before r ≡ [] → length (of_kind v kind.Bidder before) < MOST_BIDDERS
bidder-room v place before r is free =
    let (name, numbers, (new, room)) = kind-holds v place before r kind.Bidder is free in
    let count = length-map (of_kind v kind.Bidder before) bidder_of in
    omega arith

few-bidders : (v : Version) (more : List Record) → all_faults (fault_of_entry v) 2 [] more ≡ [] → (step : ℕ)
    → length (terms_of step (entries_of v more)).bidders ≤ MOST_BIDDERS
few-bidders v more none step =
    let within = few-of-kind v kind.Bidder MOST_BIDDERS (bidder-room v) 2 [] more none (omega arith) in
    let number = length-map (of_kind v kind.Bidder more) bidder_of in
    omega arith

-- ---- forms

-- bids within the limits, few of them
abbrev pub IsWithin : Lots → Offers → Type 0
IsWithin lots form = (length form.bids ≤ MOST_BIDS) × AllByRecursion (IsBid lots) form.bids

small : (quantities : List ℕ) → list_all (λ (quantity : ℕ). nat_le quantity GREATEST_QUANTITY) quantities ≡ true
    → AllByRecursion (λ n. n ≤ GREATEST_QUANTITY) quantities
small [] are = tt
small (n ∷ quantities) are = (let parts = and_parts _ _ are in (leb-true n GREATEST_QUANTITY parts.0, small quantities parts.1))

-- a record that describes a bid describes one within the limits
bid-within : (t : Terms) (eligibility : ℕ) (before : List Bid) (r : Record) → IsBidRecord t eligibility before r → IsBid (lots_in t) (parsed_bid r)
bid-within t eligibility before r is =
    let (wide, range, step, each, some, points, reserve) = allowed-parts t eligibility (parsed_bid r) is.allowed in
    let most = and_parts _ _ range in
    record {
      sized = eqb-true (length (parsed_bid r).package) (length t.categories) wide ∙ sym (length-map t.categories _);
      quantities = small (parsed_bid r).package each;
      amount = leb-true _ _ most.1;
    }

bids-within : (t : Terms) (eligibility : ℕ) (all before more : List Record) → all ≡ before ++ more
    → Each (λ before r. IsBidRecord t eligibility (map parsed_bid before) r) all → length before ≤ MOST_BIDS
    → (length all ≤ MOST_BIDS) × AllByRecursion (IsBid (lots_in t)) (map parsed_bid more)
bids-within t eligibility all before [] are each few = (rw (are, append-nil before) few, tt)
bids-within t eligibility all before (r ∷ more) are each few =
    let is = each before r more are in
    let room = is.room in
    let count = length-map before parsed_bid in
    let grown = length-append before (r ∷ []) in
    let rest = bids-within t eligibility all (before ++ r ∷ []) more (are ∙ sym (append_assoc before (r ∷ []) more)) each (omega arith) in
    (rest.0, (bid-within t eligibility (map parsed_bid before) r is, rest.1))

form-within : (t : Terms) (records : List Record) (form : Offers) → form_of_records t records ≡ Ok form → IsWithin (lots_in t) form
form-within t records form parsed =
    let so = (parsed-described t records form).0 parsed in
    let within = bids-within t (eligibility_of t form.bidder) so.entries [] so.entries refl so.each (omega arith) in
    let count = length-map so.entries parsed_bid in
    let sizes = ap length so.bids in
    (omega arith, subst (AllByRecursion (IsBid (lots_in t))) (sym so.bids) within.1)

-- ---- what an input describes

pub unless-large : {A F : Type 0} (large : Bool) (f : F) (r : Result A F) (x : A) → cond large (Err f) r ≡ Ok x → r ≡ Ok x
unless-large true f r x parsed = cc
unless-large false f r x parsed = parsed

pub terms-few : (text : List ℕ) (t : Terms) → parsed_terms text ≡ Ok t → length t.bidders ≤ MOST_BIDDERS
terms-few text t parsed =
    let inside = ok-refused_as _ _ t parsed in
    rules-parsed (λ t. length t.bidders ≤ MOST_BIDDERS) few-bidders _ t (unless-large _ rules_fault.TooLarge _ t inside)

pub forms-within : (t : Terms) (n : ℕ) (texts : List (List ℕ)) (forms : List Offers) → each_in_turn (parsed_form t) n texts ≡ Ok forms
    → AllByRecursion (IsWithin (lots_in t)) forms
forms-within t n [] forms parsed = (let none : [] ≡ forms = ok-is _ [] forms refl parsed in subst
    (λ (fs : List Offers). AllByRecursion (IsWithin (lots_in t)) fs) none tt)
forms-within t n (text ∷ texts) forms parsed =
    let first = ok-after (parsed_form t n text) _ forms parsed in
    let second = ok-after (each_in_turn (parsed_form t) (n + 1) texts) _ forms first.2 in
    let inside = ok-refused_as _ _ first.0 first.1 in
    let head = form-within t _ first.0 (unless-large _ form_fault.TooLarge _ first.0 inside) in
    let tail = forms-within t (n + 1) texts second.0 second.1 in
    let are : first.0 ∷ second.0 ≡ forms = ok-is _ (first.0 ∷ second.0) forms refl second.2 in
    subst (λ (fs : List Offers). AllByRecursion (IsWithin (lots_in t)) fs) are (head, tail)

-- ---- the book

abbrev BidsWithin : Lots → List Bid → Type 0
BidsWithin lots bids = (length bids ≤ MOST_BIDS) × AllByRecursion (IsBid lots) bids

last-within : (lots : Lots) (bidder : ℕ) (before : Option Offers) (forms : List Offers) → BidsWithin lots (bids_in before)
    → AllByRecursion (IsWithin lots) forms
    → BidsWithin lots (bids_in (last_or before (filter (λ (form : Offers). form.bidder == bidder) forms)))
last-within lots bidder before [] so_far within = so_far
last-within lots bidder before (form ∷ forms) so_far within =
    elim (cases_Bool (form.bidder == bidder)) [
      | inl is ↦ rw is (last-within lots bidder (Some form) forms within.0 within.1)
      | inr is ↦ rw is (last-within lots bidder before forms so_far within.1)
    ]

in-each : {X : Type 0} (P : X → Type 0) (f : ℕ → X) → ((b : ℕ) → P (f b)) → (a n : ℕ) → AllByRecursion P (map f (range_with_len a n))
in-each P f has a zero = tt
in-each P f has a (suc n) = (has a, in-each P f has (a + 1) n)

-- the book that forms leave
pub book-within : (t : Terms) (forms : List Offers) → length t.bidders ≤ MOST_BIDDERS → AllByRecursion (IsWithin (lots_in t)) forms
    → IsBook (lots_in t) (sale_left t forms).book
book-within t forms few within =
    let bids_of = λ (bidder : ℕ). bids_in (last_or None (forms_of bidder forms)) in
    let each : (b : ℕ) → BidsWithin (lots_in t) (bids_of b) = λ b. last-within (lots_in t) b None forms (omega arith, tt) within in
    let count = length-map-range_with_len bids_of 1 (length t.bidders) in
    record {
      bidders = omega arith;
      forms = in-each (λ form. length form ≤ MOST_BIDS) bids_of (λ b. (each b).0) 1 (length t.bidders);
      bids = in-each (λ form. AllByRecursion (IsBid (lots_in t)) form) bids_of (λ b. (each b).1) 1 (length t.bidders);
    }
