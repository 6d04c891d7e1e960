-- Counting the calls of each bidder, form by form.
use Rattle.std.proofs.Common.{◌≡◌, ◌≤◌, ◌<◌, ◌+◌, ◌++◌, ◌==◌, ◌∷◌, ◌∙◌, [], ℕ, Bool, Option, true, false, List, None, Some}
use Rattle.std.proofs.Common.{ap, append_assoc, append-nil, arith, cond, length, length-append, refl, sym, inl, inr}
use Rattle.std.proofs.Common.{slice_index_or, get_or-set_other, get_or-set_same, length-set, is_some, slice_set}
use Rattle.std.proofs.lemmas.Bool.{cases_Bool, eqb-false, eqb-true}
use Rattle.std.proofs.lemmas.Bool.Decides.{leb_tells}
use Rattle.std.proofs.lemmas.List.Elements.{filter-append}
use Rattle.std.specs.Option.{option_or}
use Rattle.auction_input.specs.CallLimit.{CountsCalls, one_too_many}
use Rattle.auction_input.specs.Submissions.{forms_of}
use Rattle.auction_input.specs.declared.call_limit.Calls.{Calls}
use Rattle.auction_input.specs.declared.call_limit.TheConstants.{COUNTS_LEN}
use Rattle.auction_terms.proofs.AllFaultsFacts.{option_or-assoc}
use Rattle.auction_terms.specs.FirstFault.{first_fault}
use Rattle.bid_book.specs.declared.records.TheConstants.{CALL_LIMIT}
use Rattle.bid_forms.specs.Offers.{Offers}

-- there is a count for each number, of the forms of that bidder
abbrev AreCounted : List ℕ → List Offers → Type 0
AreCounted counts forms = (b : ℕ) → b < COUNTS_LEN → slice_index_or counts b 0 ≡ length (forms_of b forms)

counted-more : (counts : List ℕ) (forms : List Offers) (form : Offers) (count : ℕ) → COUNTS_LEN ≤ length counts → form.bidder < COUNTS_LEN
    → AreCounted counts forms → count ≡ slice_index_or counts form.bidder 0 + 1
    → AreCounted (slice_set counts form.bidder count) (forms ++ form ∷ [])
counted-more counts forms form count long small counted one b within =
    let all = ap length (filter-append (λ (f : Offers). f.bidder == b) forms (form ∷ [])) ∙ length-append (forms_of b forms) (forms_of b (form ∷ [])) in
    elim (cases_Bool (form.bidder == b)) [
      | inl same ↦ (
          let is : form.bidder ≡ b = eqb-true form.bidder b same in
          let own : length (forms_of b (form ∷ [])) ≡ 1 = ap (λ (t : Bool). length (cond t (form ∷ []) [])) same in
          ap (λ i. slice_index_or (slice_set counts form.bidder count) i 0) (sym is) ∙ get_or-set_same counts form.bidder count 0 (omega arith) ∙ one
          ∙ ap (λ i. slice_index_or counts i 0 + 1) is ∙ ap (λ n. n + 1) (counted b within) ∙ ap (λ n. length (forms_of b forms) + n) (sym own) ∙ sym all)
      | inr other ↦ (
          let none : length (forms_of b (form ∷ [])) ≡ 0 = ap (λ (t : Bool). length (cond t (form ∷ []) [])) other in
          get_or-set_other counts form.bidder b count 0 (λ e. eqb-false form.bidder b other (sym e)) ∙ counted b within ∙ (omega arith))
    ]

-- a bidder that has a call left
pub call-left : (before : List Offers) (form : Offers) → length (forms_of form.bidder before) < CALL_LIMIT → one_too_many before form ≡ None
call-left before form few =
    elim (leb_tells CALL_LIMIT (length (forms_of form.bidder before))) [ inl (_, most) ↦ absurd (omega arith) | inr (is, _) ↦ rw is refl ]

-- a bidder that has none
no-call-left : (before : List Offers) (form : Offers) → CALL_LIMIT ≤ length (forms_of form.bidder before) → one_too_many before form ≡ Some (length before + 1)
no-call-left before form many =
    elim (leb_tells CALL_LIMIT (length (forms_of form.bidder before))) [ inl (is, _) ↦ rw is refl | inr (_, few) ↦ absurd (omega arith) ]

-- ---- the first fault of one form more

pub option_or-none : {F : Type 0} (a : Option F) → option_or a None ≡ a
option_or-none None = refl
option_or-none (Some fault) = refl

-- the first fault of items, and of those after them
pub first-append : {R F : Type 0} (fault_of : List R → R → Option F) (before items more : List R)
    → first_fault fault_of before (items ++ more) ≡ option_or (first_fault fault_of before items)
    (first_fault fault_of (before ++ items) more)
unfolding first_fault
first-append fault_of before [] more = ap (λ xs. first_fault fault_of xs more) (sym (append-nil before))
first-append fault_of before (x ∷ items) more =
    ap (option_or (fault_of before x)) (first-append fault_of (before ++ x ∷ []) items more)
    ∙ ap (λ xs. option_or (fault_of before x) (option_or (first_fault fault_of (before ++ x ∷ []) items) (first_fault fault_of xs more)))
    (append_assoc before (x ∷ []) items)
    ∙ sym (option_or-assoc (fault_of before x) (first_fault fault_of (before ++ x ∷ []) items) (first_fault fault_of (before ++ x ∷ items) more))

one-fault : {R F : Type 0} (fault_of : List R → R → Option F) (before : List R) (item : R) → first_fault fault_of before (item ∷ []) ≡ fault_of before item
unfolding first_fault
one-fault fault_of before item = option_or-none (fault_of before item)

-- the first fault of one item more
pub first-more : {R F : Type 0} (fault_of : List R → R → Option F) (items : List R) (item : R)
    → first_fault fault_of [] (items ++ item ∷ []) ≡ option_or (first_fault fault_of [] items) (fault_of items item)
first-more fault_of items item = first-append fault_of [] items (item ∷ []) ∙ ap (option_or (first_fault fault_of [] items)) (one-fault fault_of items item)

-- no item has a fault
pub first-none : {R F : Type 0} (fault_of : List R → R → Option F) → first_fault fault_of [] [] ≡ None
unfolding first_fault
first-none fault_of = refl

-- ---- the counts

pub no-call-counted : (calls : Calls) → calls.refused ≡ None → length calls.counts ≡ COUNTS_LEN
    → ((b : ℕ) → b < COUNTS_LEN → slice_index_or calls.counts b 0 ≡ 0) → CountsCalls calls []
no-call-counted calls none long zeros = record { refused = none ∙ sym (first-none one_too_many); long = long; counts = λ _ b within. zeros b within }

-- where one is refused it stays the first
pub known-first : {F : Type 0} (o found next : Option F) → is_some o ≡ true → o ≡ found → o ≡ option_or found next
known-first None found next some is = cc
known-first (Some n) found next some is = rw (← is) refl

pub none-refused : {F : Type 0} (o : Option F) → is_some o ≡ false → o ≡ None
none-refused None is = refl
none-refused (Some n) is = cc

pub refused-before : (calls : Calls) (forms : List Offers) (form : Offers) → CountsCalls calls forms → is_some calls.refused ≡ true
    → CountsCalls calls (forms ++ form ∷ [])
refused-before calls forms form counts some = record {
  refused = known-first calls.refused _ (one_too_many forms form) some counts.refused ∙ sym (first-more one_too_many forms form);
  long = counts.long;
  counts = λ none b within. (let no : is_some {T = ℕ} None ≡ true = rw none at some in absurd (cc));
}

-- the first fault of one item more, where there was none
pub next-first : {R F : Type 0} (fault_of : List R → R → Option F) (items : List R) (item : R) (refused : Option F) → refused ≡ None
    → refused ≡ first_fault fault_of [] items → first_fault fault_of [] (items ++ item ∷ []) ≡ fault_of items item
next-first fault_of items item refused none is = first-more fault_of items item ∙ ap (λ o. option_or o (fault_of items item)) (sym is ∙ none)

pub refused-here : (calls : Calls) (forms : List Offers) (form : Offers) (n : ℕ) → CountsCalls calls forms → calls.refused ≡ None
    → n ≡ length forms + 1 → form.bidder < COUNTS_LEN → CALL_LIMIT ≤ slice_index_or calls.counts form.bidder 0
    → CountsCalls (record calls { refused = Some n }) (forms ++ form ∷ [])
refused-here calls forms form n counts none number small many =
    let counted = counts.counts none form.bidder small in
    let full : CALL_LIMIT ≤ length (forms_of form.bidder forms) = omega arith in
    record {
      refused = ap (λ k. Some k) number ∙ sym (no-call-left forms form full) ∙ sym (next-first one_too_many forms form calls.refused none counts.refused);
      long = counts.long;
      counts = λ is b within. cc;
    }

pub one-more-counted : (calls : Calls) (forms : List Offers) (form : Offers) (count : ℕ) → CountsCalls calls forms → calls.refused ≡ None
    → form.bidder < COUNTS_LEN → slice_index_or calls.counts form.bidder 0 < CALL_LIMIT
    → count ≡ slice_index_or calls.counts form.bidder 0 + 1
    → CountsCalls (record calls { counts = slice_set calls.counts form.bidder count }) (forms ++ form ∷ [])
one-more-counted calls forms form count counts none small few one =
    let counted = counts.counts none form.bidder small in
    let left : length (forms_of form.bidder forms) < CALL_LIMIT = omega arith in
    let long = counts.long in
    record {
      refused = none ∙ sym (call-left forms form left) ∙ sym (next-first one_too_many forms form calls.refused none counts.refused);
      long = length-set calls.counts form.bidder count ∙ long;
      counts = λ _. counted-more calls.counts forms form count (omega arith) small (counts.counts none) one;
    }
