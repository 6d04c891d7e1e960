-- The fields of a record, one after the other.
use Rattle.std.proofs.Common.{◌≡◌, ◌<◌, ◌+◌, ◌-◌, ◌∷◌, ◌++◌, ◌∙◌, Bool, true, false, ℕ, zero, suc, List, [], Some, None}
use Rattle.std.proofs.Common.{add-one, drop, length, map, slice_index_or, refl, sym, ap, arith, ◌&&◌, append_assoc, All}
use Rattle.std.proofs.Common.{◌≤◌, is_some, not, nat_le, unwrap_or, le-leb, bytes_eq, drop-cons, drop_of_length-le, append-nil}
use Rattle.std.specs.List.{list_all}
use Rattle.std.proofs.lemmas.Bool.{and_right}
use Rattle.std.proofs.lemmas.List.{length_push}
use Rattle.std.proofs.lemmas.List.Elements.{All-push}
use Rattle.auction_terms.specs.FirstFault.{first_failed}
use Rattle.auction_terms.specs.Judged.{fault_at}
use Rattle.auction_terms.specs.Numbers.{number_of}
use Rattle.std.specs.Prelude.{codes, if◌then◌else◌}
use Rattle.csv.specs.Records.{field_at}
use Rattle.auction_terms.specs.RulesText.{parsed_numeral, record_field}
use Rattle.auction_terms.specs.Records.{Record}
use Rattle.auction_terms.specs.declared.rules.Category.{Category}
use Rattle.auction_terms.specs.declared.limits.TheConstants.{GREATEST_QUANTITY}
use Rattle.bid_forms.specs.FormText.{column_checks, is_number_text, is_small_text, parsed_bid}
use Rattle.bid_forms.specs.declared.form_text.FormFault.TheVariants as fault

fields-from : (r : Record) (i : ℕ) → i < length r → drop i r ≡ unwrap_or (field_at r i) [] ∷ drop (suc i) r
unfolding field_at
fields-from [] i small = absurd (omega arith)
fields-from (f ∷ r) zero small = refl
fields-from (f ∷ r) (suc i) small = fields-from r i (omega arith)

-- the fields from a place on
pub fields-more : (r : Record) (i : ℕ) → i < length r → drop i r ≡ record_field (i + 1) r ∷ drop (i + 1) r
fields-more r i small =
    let place : i + 1 - 1 ≡ i = omega arith in
    rw (place, add-one i) (fields-from r i small)

-- the columns from a place on
pub columns-more : (categories : List Category) (r : Record) (place : ℕ) (category : Category)
    → place < length categories → category ≡ slice_index_or categories place category
    → first_failed (column_checks (place + 2) (drop place categories) r)
    ≡ (if bytes_eq (record_field (place + 2) r) category.name then first_failed (column_checks (place + 1 + 2) (drop (place + 1) categories) r)
    else Some (fault_at (place + 2) (record_field (place + 2) r) (fault.Header 1) (codes "in place of " ++ category.name)))
columns-more categories r place category small at =
    let next : drop place categories ≡ category ∷ drop (place + 1) categories =
    rw (add-one place) (drop-cons categories place category small ∙ ap (λ c. c ∷ drop (suc place) categories) (sym at)) in
    let three : place + 2 + 1 ≡ place + 1 + 2 = omega arith in
    rw (next, three) refl

pub when-not-true : (b : Bool) → true ≡ not b → b ≡ false
when-not-true true e = cc e
when-not-true false e = refl

pub when-not-false : (b : Bool) → false ≡ not b → b ≡ true
when-not-false true e = refl
when-not-false false e = cc e

-- whether each field after the first is a quantity
abbrev pub has_quantities : Record → Bool
has_quantities r = list_all is_number_text (drop 1 r) && list_all is_small_text (drop 1 r)

-- the quantities of the fields from a place on
abbrev pub quantities_from : ℕ → Record → List ℕ
quantities_from n r = map parsed_numeral (drop n r)

-- what a loop over the quantities keeps
abbrev pub QuantitiesSoFar : Record → ℕ → List ℕ → Type 0
QuantitiesSoFar r n items =
    (list_all is_number_text (drop n r) ≡ list_all is_number_text (drop 1 r)) × (list_all is_small_text (drop n r) ≡ list_all is_small_text (drop 1 r))
    × (items ++ quantities_from n r ≡ quantities_from 1 r) × All (λ quantity. quantity ≤ GREATEST_QUANTITY) items × (length items < n)

-- the next field is no number
pub quantities-none : (r : Record) (n : ℕ) (items : List ℕ) → QuantitiesSoFar r n items → n < length r
    → None ≡ number_of (record_field (n + 1) r) → has_quantities r ≡ false
quantities-none r n items (texts, small, are, each, few) more none =
    let parsed = rw (fields-more r n more, sym (ap is_some none)) at texts in
    rw (sym parsed) refl

-- the next field is a number above the limit
pub quantities-great : (r : Record) (n : ℕ) (items : List ℕ) (value : ℕ) → QuantitiesSoFar r n items → n < length r
    → Some value ≡ number_of (record_field (n + 1) r) → nat_le value GREATEST_QUANTITY ≡ false → has_quantities r ≡ false
quantities-great r n items value (texts, small, are, each, fewer) more some great =
    let parsed = rw (fields-more r n more, ← some, great) at small in
    and_right (list_all is_number_text (drop 1 r)) _ (sym parsed)

-- the next field is a quantity
pub quantities-small : (r : Record) (n : ℕ) (items : List ℕ) (value : ℕ) → QuantitiesSoFar r n items → n < length r
    → Some value ≡ number_of (record_field (n + 1) r) → value ≤ GREATEST_QUANTITY → QuantitiesSoFar r (n + 1) (items ++ value ∷ [])
quantities-small r n items value (texts, small, are, each, fewer) wide some few =
    let next = fields-more r n wide in
    let test : nat_le value GREATEST_QUANTITY ≡ true = le-leb value GREATEST_QUANTITY few in
    let more = rw (next, ← some) at are in (
      rw (next, ← some) at texts,
      rw (next, ← some, test) at small,
      append_assoc items (value ∷ []) _ ∙ more,
      All-push (λ quantity. quantity ≤ GREATEST_QUANTITY) items value each few,
      (let longer = length_push items value in omega arith),
    )

-- no field is left
pub quantities-all : (r : Record) (n : ℕ) (items : List ℕ) → QuantitiesSoFar r n items → length r ≤ n
    → (has_quantities r ≡ true) × (items ≡ (parsed_bid r).package)
quantities-all r n items (texts, small, are, each, fewer) past =
    let none : drop n r ≡ [] = drop_of_length-le r past in
    let all_texts : list_all is_number_text (drop 1 r) ≡ true = sym (rw none at texts) in
    let all_small : list_all is_small_text (drop 1 r) ≡ true = sym (rw none at small) in
    let same = rw none at are in
    (rw (all_texts, all_small) refl, sym (append-nil items) ∙ same)
