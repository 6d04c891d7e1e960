-- The program of some of the offers, and that of all of them, if no other offer is at 1.
use Rattle.std.proofs.Common.{◌≡◌, ℕ, Bool, true, false, ◌||◌, ◌==◌, List, [], ◌∷◌, ◌++◌, map, sym, refl, ap, ap₂, ◌∙◌}
use Rattle.std.specs.Prelude.{bytes_eq, filter}
use Rattle.std.specs.List.{AllByRecursion, list_any}
use Rattle.std.proofs.lemmas.Bool.{both_ways, cond_both, false_from_ne_true, or_right}
use Rattle.std.proofs.lemmas.Slice.Eq.{bytes_eq-Decides}
use Rattle.auction_terms.specs.Packages.{Lots, worth_of_all}
use Rattle.auction_terms.specs.Keeping.{Offer}
use Rattle.auction_terms.specs.inside.Keeping.{choice_of}
use Rattle.auction_terms.proofs.LimitFacts.{all_left}
use Rattle.program_rows.specs.Faithful.{back}
use Rattle.program_rows.specs.Points.{AreAllowed, IsPoint}
use Rattle.program_rows.specs.Program.{TableColumn}
use Rattle.program_rows.specs.Rows.{column_of, program_of, subjects, worth_column}
use Rattle.program_rows.specs.Spelling.{bid_name, is_bid}
use Rattle.program_rows.specs.declared.subject.Subject.{Subject}
use Rattle.program_rows.proofs.FaithfulFacts.{IsNumbered, back_is, chosen, point_of_others}
use Rattle.program_rows.proofs.LegalFacts.{last_column}
use Rattle.program_rows.proofs.SpellingFacts.{names_differ}

true_either : (a b c : Bool) → (b ≡ true → c ≡ true) → (a || b) ≡ true → (a || c) ≡ true
true_either true b c more h = refl
true_either false b c more h = more h

module _ (lots : Lots) (is_named : ℕ → ℕ → Bool) where
  abbrev pub named_of : List Offer → List Offer
  named_of offers = filter (λ o. is_named o.bidder o.number) offers

  abbrev columns_of : List Subject → List Offer → List TableColumn
  columns_of rows offers = map (column_of lots rows) offers ++ worth_column lots

  abbrev names_of : List TableColumn → List (List ℕ)
  names_of columns = map (λ c. c.name) columns

  -- ---------- names ----------

  more_names : (name : List ℕ) (rows few_rows : List Subject) (offers : List Offer)
      → list_any (bytes_eq name) (names_of (columns_of few_rows (named_of offers))) ≡ true
      → list_any (bytes_eq name) (names_of (columns_of rows offers)) ≡ true
  more_names name rows few_rows [] h = h
  more_names name rows few_rows (o ∷ offers) h = by (is_named o.bidder o.number) refl (more_names name rows few_rows offers)
    where
      by : (b : Bool) → is_named o.bidder o.number ≡ b
          → (list_any (bytes_eq name) (names_of (columns_of few_rows (named_of offers))) ≡ true → list_any (bytes_eq name)
          (names_of (columns_of rows offers)) ≡ true)
          → list_any (bytes_eq name) (names_of (columns_of rows (o ∷ offers))) ≡ true
      by true e more = true_either (bytes_eq name (bid_name o.bidder o.number)) _ _ more (rw e at h)
      by false e more = or_right (bytes_eq name (bid_name o.bidder o.number)) _ (more (rw e at h))

  -- a name of the program of some offers is one of the program of all
  pub names_among : (offers : List Offer) (name : List ℕ)
      → list_any (bytes_eq name) (names_of (program_of lots (named_of offers)).columns) ≡ true
      → list_any (bytes_eq name) (names_of (program_of lots offers).columns) ≡ true
  names_among offers name = more_names name (subjects lots offers) (subjects lots (named_of offers)) offers

  other_name : (bidder bid : ℕ) (o : Offer) → is_bid bidder bid ≡ true → is_named bidder bid ≡ false → IsNumbered o
      → is_named o.bidder o.number ≡ true → bytes_eq (bid_name bidder bid) (bid_name o.bidder o.number) ≡ false
  other_name bidder bid o mine unnamed its named = false_from_ne_true _ (λ t.
      let same = names_differ bidder bid o.bidder o.number mine its ((bytes_eq-Decides (bid_name bidder bid) (bid_name o.bidder o.number)).0 t) in
      both_ways (is_named bidder bid) unnamed (ap₂ is_named same.0 same.1 ∙ named))

  no_name : (bidder bid : ℕ) (rows : List Subject) (offers : List Offer) → is_bid bidder bid ≡ true → is_named bidder bid ≡ false
      → AllByRecursion IsNumbered offers → list_any (bytes_eq (bid_name bidder bid)) (names_of (columns_of rows (named_of offers))) ≡ false
  no_name bidder bid rows [] mine unnamed h = cond_both (worth_of_all lots == 0) [] (last_column lots ∷ [])
      (λ cs. list_any (bytes_eq (bid_name bidder bid)) (names_of cs) ≡ false) (λ e. refl) (λ e. refl)
  no_name bidder bid rows (o ∷ offers) mine unnamed h = by (is_named o.bidder o.number) refl (no_name bidder bid rows offers mine unnamed h.1)
    where
      by : (b : Bool) → is_named o.bidder o.number ≡ b
          → list_any (bytes_eq (bid_name bidder bid)) (names_of (columns_of rows (named_of offers))) ≡ false
          → list_any (bytes_eq (bid_name bidder bid)) (names_of (columns_of rows (named_of (o ∷ offers)))) ≡ false
      by true e more = rw e (ap₂ (λ (x y : Bool). x || y) (other_name bidder bid o mine unnamed h.0 e) more)
      by false e more = rw e more

  module _ (value : List ℕ → Bool) where
    abbrev values : List TableColumn → List Bool
    values columns = map (λ c. value c.name) columns

    abbrev pub IsSilent : Offer → Type 0
    IsSilent o = is_named o.bidder o.number ≡ false → value (bid_name o.bidder o.number) ≡ false

    -- ---------- values ----------

    same_chosen : (rows few_rows : List Subject) (offers : List Offer) → AllByRecursion IsSilent offers
        → chosen offers (values (columns_of rows offers)) ≡ chosen (named_of offers) (values (columns_of few_rows (named_of offers)))
    same_chosen rows few_rows [] h = refl
    same_chosen rows few_rows (o ∷ offers) h =
        by (is_named o.bidder o.number) (value (bid_name o.bidder o.number)) refl refl (same_chosen rows few_rows offers h.1)
      where
        by : (named one : Bool) → is_named o.bidder o.number ≡ named → value (bid_name o.bidder o.number) ≡ one
            → chosen offers (values (columns_of rows offers)) ≡ chosen (named_of offers) (values (columns_of few_rows (named_of offers)))
            → chosen (o ∷ offers) (values (columns_of rows (o ∷ offers)))
            ≡ chosen (named_of (o ∷ offers)) (values (columns_of few_rows (named_of (o ∷ offers))))
        by true true e f more = rw (e, f) (ap (λ (xs : List Offer). o ∷ xs) more)
        by true false e f more = rw (e, f) more
        by false true e f more = absurd (both_ways (value (bid_name o.bidder o.number)) (h.0 e) f)
        by false false e f more = rw (e, f) more

    last_allowed : (rows : List Subject) (offers : List Offer) → AreAllowed (columns_of rows offers) (values (columns_of rows offers))
        → AreAllowed (worth_column lots) (values (worth_column lots))
    last_allowed rows [] h = h
    last_allowed rows (o ∷ offers) h = last_allowed rows offers h.1

    all_allowed : (rows : List Subject) (offers : List Offer) → AreAllowed (worth_column lots) (values (worth_column lots))
        → AreAllowed (columns_of rows offers) (values (columns_of rows offers))
    all_allowed rows [] h = h
    all_allowed rows (o ∷ offers) h = (refl, all_allowed rows offers h)

    -- a point of the program of some offers is one of the program of all, and takes the same bids
    pub point_of_all : (offers : List Offer) → AllByRecursion IsSilent offers
        → IsPoint (program_of lots (named_of offers)) (values (program_of lots (named_of offers)).columns)
        → IsPoint (program_of lots offers) (values (program_of lots offers).columns)
    point_of_all offers silent point =
        let few = named_of offers in
        let rows = subjects lots offers in
        let few_rows = subjects lots few in
        point_of_others lots few offers (values (columns_of few_rows few)) (values (columns_of rows offers)) point
        (all_allowed rows offers (last_allowed few_rows few point.allowed)) (same_chosen rows few_rows offers silent)

    pub same_back : (offers : List Offer) → AllByRecursion IsNumbered offers → AllByRecursion IsSilent offers
        → back (program_of lots offers).columns (values (program_of lots offers).columns)
        ≡ back (program_of lots (named_of offers)).columns (values (program_of lots (named_of offers)).columns)
    same_back offers numbered silent =
        let few = named_of offers in
        let rows = subjects lots offers in
        let few_rows = subjects lots few in
        back_is lots rows offers (values (columns_of rows offers)) numbered
        ∙ ap (λ (xs : List Offer). map choice_of xs) (same_chosen rows few_rows offers silent)
        ∙ sym (back_is lots few_rows few (values (columns_of few_rows few)) (all_left IsNumbered (λ o. is_named o.bidder o.number) offers numbered))

  -- no column of the program of some offers has the name of another offer
  pub unnamed : (offers : List Offer) (bidder bid : ℕ) → AllByRecursion IsNumbered offers → is_bid bidder bid ≡ true
      → is_named bidder bid ≡ false → list_any (bytes_eq (bid_name bidder bid)) (names_of (program_of lots (named_of offers)).columns)
      ≡ false
  unnamed offers bidder bid numbered mine is = no_name bidder bid (subjects lots (named_of offers)) offers mine is numbered
