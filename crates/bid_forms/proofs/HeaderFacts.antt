-- A header without a fault is a name, and the names of the categories.
use Rattle.std.proofs.Common.{◌≡◌, ◌+◌, ◌<◌, ◌∷◌, ◌∙◌, Bool, true, false, ℕ, List, [], Option, Some, None, ap, arith, bytes_eq, drop, drop_of_length-le}
use Rattle.std.proofs.Common.{eq-eqb, eqb-true, length, map, refl, sym}
use Rattle.std.specs.Prelude.{◌==◌, if◌then◌else◌}
use Rattle.std.proofs.lemmas.List.{length-map}
use Rattle.std.proofs.lemmas.Slice.Eq.{bytes_eq-Decides}
use Rattle.csv.specs.Records.{field_at}
use Rattle.auction_terms.proofs.JudgeFacts.{failed-none, none-failed}
use Rattle.auction_terms.specs.FirstFault.{first_failed}
use Rattle.auction_terms.specs.Judged.{fault_of}
use Rattle.auction_terms.specs.Records.{Record}
use Rattle.auction_terms.specs.RulesText.{record_field}
use Rattle.auction_terms.specs.Terms.{Terms}
use Rattle.auction_terms.specs.declared.rules.Category.{Category}
use Rattle.bid_forms.proofs.RecordFacts.{fields-more}
use Rattle.bid_forms.specs.AcceptedForms.{header_of}
use Rattle.bid_forms.specs.FormText.{column_checks, form_header_checks}

-- where a list of checks has no fault, its first check is passed, and the others have none
pub passed : {F : Type 0} (test : Bool) (fault : F) (more : Option F) → (if test then more else Some fault) ≡ None → (test ≡ true) × (more ≡ None)
passed true fault more none = (refl, none)
passed false fault more none = cc none

columns-are : (categories : List Category) (r : Record) (n : ℕ) → length r ≡ n + length categories → first_failed (column_checks (n + 1) categories r) ≡ None
    → drop n r ≡ map (λ category. category.name) categories
columns-are [] r n wide none = drop_of_length-le r (omega arith)
columns-are (category ∷ more) r n wide none =
    let first = passed (bytes_eq (record_field (n + 1) r) category.name) _ _ none in
    let same : record_field (n + 1) r ≡ category.name = (bytes_eq-Decides (record_field (n + 1) r) category.name).0 first.0 in
    fields-more r n (omega arith) ∙ ap (λ text. text ∷ drop (n + 1) r) same
    ∙ ap (λ texts. category.name ∷ texts) (columns-are more r (n + 1) (omega arith) first.1)

are-columns : (categories : List Category) (r : Record) (n : ℕ) → length r ≡ n + length categories → drop n r ≡ map (λ category. category.name) categories
    → first_failed (column_checks (n + 1) categories r) ≡ None
are-columns [] r n wide are = refl
are-columns (category ∷ more) r n wide are =
    let both : record_field (n + 1) r ∷ drop (n + 1) r ≡ category.name ∷ map (λ c. c.name) more = sym (fields-more r n (omega arith)) ∙ are in
    let same : record_field (n + 1) r ≡ category.name = cc both in
    let rest : drop (n + 1) r ≡ map (λ c. c.name) more = cc both in
    let test : bytes_eq (record_field (n + 1) r) category.name ≡ true = (bytes_eq-Decides (record_field (n + 1) r) category.name).1 same in
    rw test (are-columns more r (n + 1) (omega arith) rest)

-- a record with fields is the first one, and the others
first-and-others : (r : Record) → 0 < length r → r ≡ record_field 1 r ∷ drop 1 r
unfolding field_at
first-and-others [] some = absurd (omega arith)
first-and-others (text ∷ texts) some = refl

pub header-is : (t : Terms) (header : Record) → fault_of (form_header_checks t.categories header) ≡ [] → header ≡ header_of t (record_field 1 header)
header-is t header none =
    let first = passed (length header == length t.categories + 1) _ _ (none-failed (form_header_checks t.categories header) none) in
    let wide = eqb-true (length header) (length t.categories + 1) first.0 in
    first-and-others header (omega arith)
    ∙ ap (λ texts. record_field 1 header ∷ texts) (columns-are t.categories header 1 (omega arith) first.1)

pub name-is : (t : Terms) (name : List ℕ) → record_field 1 (header_of t name) ≡ name
unfolding field_at
name-is t name = refl

pub header-passes : (t : Terms) (name : List ℕ) → fault_of (form_header_checks t.categories (header_of t name)) ≡ []
header-passes t name =
    let count = length-map t.categories (λ category. category.name) in
    let wide : (length (header_of t name) == length t.categories + 1) ≡ true = eq-eqb _ _ (omega arith) in
    failed-none (form_header_checks t.categories (header_of t name)) (rw wide (are-columns t.categories (header_of t name) 1 (omega arith) refl))
