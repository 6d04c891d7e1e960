-- A text of a form has no fault exactly if its records describe a form.
use Rattle.std.proofs.Common.{◌≡◌, ◌+◌, ◌∷◌, ◌++◌, ℕ, List, [], Option, None, Some, Ok, ap, append_assoc, append-nil, arith, length, map, refl}
use Rattle.std.specs.Prelude.{◌↔◌, codes}
use Rattle.std.specs.Option.{option_map_or}
use Rattle.auction_terms.specs.AcceptedGroups.{Each}
use Rattle.auction_terms.proofs.AcceptedFacts.{both-none, or_else-none}
use Rattle.auction_terms.proofs.FirstFaultFacts.{empty-cons}
use Rattle.auction_terms.specs.AllFaults.{all_faults}
use Rattle.auction_terms.specs.Judged.{Fault, fault_at, fault_of, first_or}
use Rattle.auction_terms.specs.Records.{Record}
use Rattle.auction_terms.specs.RulesText.{record_field}
use Rattle.auction_terms.specs.Terms.{Terms}
use Rattle.auction_terms.specs.declared.limits.TheConstants.{GREATEST_AMOUNT}
use Rattle.bid_forms.proofs.BidFacts.{bid-passes, passes-bid}
use Rattle.bid_forms.proofs.HeaderFacts.{header-is, header-passes, name-is}
use Rattle.bid_forms.specs.AcceptedForms.{Describe}
use Rattle.bid_forms.specs.FormText.{bids_faults, described_form, faults_of_named, form_faults, form_of_records, form_header_checks, named_bidder, parsed_bid, record_faults}
use Rattle.bid_forms.specs.Offers.{Offers, eligibility_of}
use Rattle.bid_forms.specs.declared.form_text.FormFault.{FormFault}
use Rattle.bid_forms.specs.declared.form_text.FormFault.TheVariants as fault

-- ---------- of any list ----------

module _ {R F : Type 0} (faults_of : ℕ → List R → R → List F) where
  -- where a list has no fault, no item has one
  none-each : (n : ℕ) (accepted items : List R) → all_faults faults_of n accepted items ≡ []
      → Each (λ before item. faults_of (n + length before) (accepted ++ before) item ≡ []) items
  unfolding all_faults
  none-each n accepted [] none before item after is = absurd (empty-cons before item after is)
  none-each n accepted (x ∷ xs) none [] item after is =
      let both = both-none (faults_of n accepted x) _ none in
      let same : x ≡ item = cc is in
      let at : n + 0 ≡ n = omega arith in
      rw (at, append-nil accepted, ← same) both.0
  none-each n accepted (x ∷ xs) none (y ∷ before) item after is =
      let both = both-none (faults_of n accepted x) _ none in
      let first = both.0 in
      let rest : all_faults faults_of (n + 1) (accepted ++ x ∷ []) xs ≡ [] = rw first at both.1 in
      let same : x ≡ y = cc is in
      let others : xs ≡ before ++ item ∷ after = cc is in
      let later = none-each (n + 1) (accepted ++ x ∷ []) xs rest before item after others in
      let at : n + length (y ∷ before) ≡ n + 1 + length before = omega arith in
      rw (at, ← same, ← append_assoc accepted (x ∷ []) before) later

  -- and the other way round
  each-none : (n : ℕ) (accepted items : List R) → Each (λ before item. faults_of (n + length before) (accepted ++ before) item ≡ []) items
      → all_faults faults_of n accepted items ≡ []
  unfolding all_faults
  each-none n accepted [] each = refl
  each-none n accepted (x ∷ xs) each =
      let at : n + 0 ≡ n = omega arith in
      let here = each [] x xs refl in
      let first : faults_of n accepted x ≡ [] = rw (at, append-nil accepted) at here in
      let rest : all_faults faults_of (n + 1) (accepted ++ x ∷ []) xs ≡ [] = each-none (n + 1) (accepted ++ x ∷ []) xs
      (λ before item after is. let later = each (x ∷ before) item after (ap (λ ys. x ∷ ys) is) in
      let next : n + 1 + length before ≡ n + length (x ∷ before) = omega arith in
      rw (next, append_assoc accepted (x ∷ []) before) later) in
      rw first rest

-- ---------- of forms ----------

-- where a text has no fault, its records describe the form that is read
pub none-describe : (t : Terms) (records : List Record) → form_faults t records ≡ [] → Describe t records (described_form t records)
none-describe t [] none = cc none
none-describe t (header ∷ entries) none =
    let both = or_else-none (fault_of (form_header_checks t.categories header)) (faults_of_named t (record_field 1 header) entries) none in
    by (named_bidder t (record_field 1 header)) refl both.0 both.1
  where
    by : (named : Option ℕ) → named_bidder t (record_field 1 header) ≡ named → fault_of (form_header_checks t.categories header) ≡ []
        → option_map_or (λ bidder. bids_faults t (eligibility_of t bidder) entries) named
        (fault_at 1 (record_field 1 header) (fault.UnknownBidder 1) (codes "is no bidder's name") ∷ bids_faults t GREATEST_AMOUNT entries) ≡ []
        → Describe t (header ∷ entries) (described_form t (header ∷ entries))
    by None is columns none = cc none
    by (Some bidder) is columns none =
        rw is (record {
          name = record_field 1 header;
          entries = entries;
          records_are = ap (λ r. r ∷ entries) (header-is t header columns);
          bidder = is;
          bids = refl;
          each = λ before r after at. bid-passes t (eligibility_of t bidder) (2 + length before) (map parsed_bid before) r
              (none-each (record_faults t (eligibility_of t bidder)) 2 [] entries none before r after at);
        })

-- and the other way round
pub describe-none : (t : Terms) (records : List Record) (form : Offers) → Describe t records form
    → (form_faults t records ≡ []) × (described_form t records ≡ form)
describe-none t records form so =
    let none : bids_faults t (eligibility_of t form.bidder) so.entries ≡ [] =
    each-none (record_faults t (eligibility_of t form.bidder)) 2 [] so.entries (λ before r after at.
    passes-bid t (eligibility_of t form.bidder) (2 + length before) (map parsed_bid before) r (so.each before r after at)) in (
      rw (so.records_are, header-passes t so.name, name-is t so.name, so.bidder) none,
      rw (so.records_are, name-is t so.name, so.bidder, ← so.bids) refl,
    )

pub faultless-described : (t : Terms) (records : List Record) → form_faults t records ≡ [] ↔ ((form : Offers) × Describe t records form)
faultless-described t records = (λ none. (described_form t records, none-describe t records none), λ described. (describe-none t records described.0 described.1).0)

pub parsed-described : (t : Terms) (records : List Record) (form : Offers) → form_of_records t records ≡ Ok form ↔ Describe t records form
parsed-described t records form = (forth, back)
  where
    by : (faults : List (Fault FormFault)) → first_or faults (described_form t records) ≡ Ok form → (faults ≡ []) × (described_form t records ≡ form)
    by [] is = (refl, cc is)
    by (f ∷ more) is = cc is

    forth : form_of_records t records ≡ Ok form → Describe t records form
    forth is = let both = by (form_faults t records) is in rw both.1 at (none-describe t records both.0)

    back : Describe t records form → form_of_records t records ≡ Ok form
    back described = let (none, same) = describe-none t records form described in rw (none, same) refl
