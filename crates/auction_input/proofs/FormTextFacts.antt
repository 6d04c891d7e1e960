-- Knowing the text of each bidder's first form, form by form.
use Rattle.std.proofs.Common.{◌≡◌, ◌<◌, ◌+◌, ◌++◌, ◌==◌, ◌∷◌, ◌∙◌, [], ℕ, Bool, Option, true, false, List, None, Some, ap}
use Rattle.std.proofs.Common.{arith, cond, if◌then◌else◌, inl, inr, is_some, length, length-set, get_or-set_other}
use Rattle.std.proofs.Common.{get_or-set_same, refl, slice_index_or, slice_set, sym}
use Rattle.std.proofs.lemmas.Bool.{cases_Bool, eqb-false, eqb-true}
use Rattle.std.specs.List.{zip}
use Rattle.std.specs.Option.{option_or}
use Rattle.auction_input.specs.FormTexts.{KnowsTexts, another, another_form, elsewhere, first_text}
use Rattle.auction_input.specs.declared.form_texts.AnotherForm.{AnotherForm}
use Rattle.auction_input.specs.declared.form_texts.FormTexts.{FormTexts}
use Rattle.auction_input.specs.declared.form_texts.TheConstants.{TEXTS_LEN}
use Rattle.auction_input.proofs.CallFacts.{first-more, first-none, known-first, next-first, option_or-none}
use Rattle.auction_terms.specs.Terms.{Terms}
use Rattle.bid_forms.specs.Offers.{Offers}

abbrev Placed : Type 0
Placed = Offers × ℕ

is-equal : (m n : ℕ) → m ≡ n → (m == n) ≡ true
is-equal m n same = elim (cases_Bool (m == n)) [ inl is ↦ is | inr other ↦ absurd (eqb-false m n other same) ]

is-other : (m n : ℕ) → (m ≡ n → ⊥) → (m == n) ≡ false
is-other m n differs = elim (cases_Bool (m == n)) [ inl is ↦ absurd (differs (eqb-true m n is)) | inr other ↦ other ]

pub none-known : (o : Option ℕ) → ((first : ℕ) → o ≡ Some first → ⊥) → o ≡ None
none-known None not = refl
none-known (Some first) not = absurd (not first refl)

-- the text of a form, if it is of this bidder
abbrev own : ℕ → Placed → Option ℕ
own b form = if form.0.bidder == b then Some form.1 else None

pub first-text-more : (b : ℕ) (forms : List Placed) (form : Placed) → first_text b (forms ++ form ∷ []) ≡ option_or (first_text b forms) (own b form)
first-text-more b [] form = refl
first-text-more b (x ∷ forms) form = elim (cases_Bool (x.0.bidder == b)) [ inl is ↦ rw is refl | inr other ↦ rw other (first-text-more b forms form) ]

-- a form of another bidder changes nothing
first-text-other : (b : ℕ) (forms : List Placed) (form : Placed) → (form.0.bidder == b) ≡ false → first_text b (forms ++ form ∷ []) ≡ first_text b forms
first-text-other b forms form other = first-text-more b forms form
    ∙ ap (λ (t : Bool). option_or (first_text b forms) (cond t (Some form.1) None)) other ∙ option_or-none (first_text b forms)

-- nor does one of a bidder whose first form is known
pub first-text-known : (b first : ℕ) (forms : List Placed) (form : Placed) → first_text b forms ≡ Some first → first_text b (forms ++ form ∷ []) ≡ Some first
first-text-known b first forms form known = first-text-more b forms form ∙ ap (λ (o : Option ℕ). option_or o (own b form)) known

-- the first form of a bidder is its own first one
pub first-text-own : (forms : List Placed) (form : Placed) → first_text form.0.bidder forms ≡ None → first_text form.0.bidder (forms ++ form ∷ []) ≡ Some form.1
first-text-own forms form none =
    first-text-more form.0.bidder forms form ∙ ap (λ (o : Option ℕ). option_or o (own form.0.bidder form)) none
    ∙ ap (λ (t : Bool). cond t (Some form.1) None) (is-equal form.0.bidder form.0.bidder refl)

-- ---- what is known of the forms

pub no-text-known : (t : Terms) (known : FormTexts) → known.refused ≡ None → length known.first ≡ TEXTS_LEN
    → ((b : ℕ) → b < TEXTS_LEN → slice_index_or known.first b None ≡ None) → KnowsTexts t known []
no-text-known t known none long empty = record { refused = none ∙ sym (first-none (another_form t)); long = long; first = λ _ b within. empty b within }

module _ (t : Terms) (known : FormTexts) (forms : List Placed) (form : Placed) (knows : KnowsTexts t known forms) where
  pub refused-before : is_some known.refused ≡ true → KnowsTexts t known (forms ++ form ∷ [])
  refused-before some = record {
    refused = known-first known.refused _ (another_form t forms form) some knows.refused ∙ sym (first-more (another_form t) forms form);
    long = knows.long;
    first = λ none b within. (let no : is_some {T = AnotherForm} None ≡ true = rw none at some in absurd (cc));
  }

  module _ (none : known.refused ≡ None) (small : form.0.bidder < TEXTS_LEN) where
    -- the bidder's first form
    pub first-of-bidder : slice_index_or known.first form.0.bidder None ≡ None
        → KnowsTexts t (record known { first = slice_set known.first form.0.bidder (Some form.1) }) (forms ++ form ∷ [])
    first-of-bidder unknown =
        let long = knows.long in
        let no_form : first_text form.0.bidder forms ≡ None = sym (knows.first none form.0.bidder small) ∙ unknown in
        record {
          refused = none ∙ sym (ap (elsewhere form.1 (another t (length forms + 1) form.0)) no_form)
              ∙ sym (next-first (another_form t) forms form known.refused none knows.refused);
          long = length-set known.first form.0.bidder (Some form.1) ∙ long;
          first = λ _ b within. elim (cases_Bool (form.0.bidder == b)) [
            | inl same ↦ (
                let is : form.0.bidder ≡ b = eqb-true form.0.bidder b same in
                ap (λ i. slice_index_or (slice_set known.first form.0.bidder (Some form.1)) i None) (sym is)
                ∙ get_or-set_same known.first form.0.bidder (Some form.1) None (omega arith)
                ∙ sym (first-text-own forms form no_form) ∙ ap (λ i. first_text i (forms ++ form ∷ [])) is)
            | inr other ↦ (
                get_or-set_other known.first form.0.bidder b (Some form.1) None (λ e. eqb-false form.0.bidder b other (sym e))
                ∙ knows.first none b within ∙ sym (first-text-other b forms form other))
          ];
        }

    module _ (first : ℕ) (is : slice_index_or known.first form.0.bidder None ≡ Some first) where
      known-here : first_text form.0.bidder forms ≡ Some first
      known-here = sym (knows.first none form.0.bidder small) ∙ is

      fault-is : another_form t forms form ≡ elsewhere form.1 (another t (length forms + 1) form.0) (Some first)
      fault-is = ap (elsewhere form.1 (another t (length forms + 1) form.0)) known-here

      -- a further form in the same text
      pub in-that-text : first ≡ form.1 → KnowsTexts t known (forms ++ form ∷ [])
      in-that-text is_same = (let same = is-equal first form.1 is_same in record {
        refused = none ∙ sym (fault-is ∙ ap (λ (b : Bool). cond b None (Some (another t (length forms + 1) form.0 first))) same)
            ∙ sym (next-first (another_form t) forms form known.refused none knows.refused);
        long = knows.long;
        first = λ _ b within. elim (cases_Bool (form.0.bidder == b)) [
          | inl this ↦ (
              let e : form.0.bidder ≡ b = eqb-true form.0.bidder b this in
              let here = ap (λ i. first_text i forms) (sym e) ∙ known-here in
              knows.first none b within ∙ here ∙ sym (first-text-known b first forms form here))
          | inr other ↦ knows.first none b within ∙ sym (first-text-other b forms form other)
        ];
      })

      -- one in another
      pub in-another-text : (n : ℕ) → n ≡ length forms + 1 → (first ≡ form.1 → ⊥)
          → KnowsTexts t (record known { refused = Some (another t n form.0 first) }) (forms ++ form ∷ [])
      in-another-text n number differs = (let other = is-other first form.1 differs in record {
        refused = ap (λ k. Some (another t k form.0 first)) number
            ∙ sym (fault-is ∙ ap (λ (b : Bool). cond b None (Some (another t (length forms + 1) form.0 first))) other)
            ∙ sym (next-first (another_form t) forms form known.refused none knows.refused);
        long = knows.long;
        first = λ is_none b within. cc;
      })

-- ---- forms and the numbers of their texts

pub zip-more : {X Y : Type 0} (xs : List X) (ys : List Y) (x : X) (y : Y) → length ys ≡ length xs → zip (xs ++ x ∷ []) (ys ++ y ∷ []) ≡ zip xs ys ++ (x, y) ∷ []
zip-more [] [] x y same = refl
zip-more [] (b ∷ ys) x y same = absurd (omega arith)
zip-more (a ∷ xs) [] x y same = absurd (omega arith)
zip-more (a ∷ xs) (b ∷ ys) x y same = ap (λ ps. (a, b) ∷ ps) (zip-more xs ys x y (omega arith))

pub length-zip : {X Y : Type 0} (xs : List X) (ys : List Y) → length ys ≡ length xs → length (zip xs ys) ≡ length xs
length-zip [] [] same = refl
length-zip [] (b ∷ ys) same = absurd (omega arith)
length-zip (a ∷ xs) [] same = absurd (omega arith)
length-zip (a ∷ xs) (b ∷ ys) same = (let rest = length-zip xs ys (omega arith) in omega arith)
