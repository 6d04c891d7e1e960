-- A bidder's forms are in one text: each is to be in that of its first form.
use Rattle.std.specs.Prelude.{◌≡◌, ◌+◌, ◌<◌, ◌==◌, ℕ, Bool, List, [], ◌∷◌, Option, None, Some, Result, Ok, if◌then◌else◌, length, map, slice_index_or}
use Rattle.std.specs.List.{zip}
use Rattle.auction_input.specs.declared.form_texts.AnotherForm.{AnotherForm}
use Rattle.auction_input.specs.declared.form_texts.FormTexts.{FormTexts}
use Rattle.auction_input.specs.declared.refusal.Refusal.TheVariants as refusal
use Rattle.auction_input.specs.declared.refusal.Refusal.{Refusal}
use Rattle.auction_terms.specs.declared.limits.TheConstants.{MOST_BIDDERS}
use Rattle.auction_terms.specs.FirstFault.{first_fault}
use Rattle.auction_terms.specs.Stages.{refused_as, unless}
use Rattle.auction_terms.specs.Terms.{Terms}
use Rattle.bid_desk.specs.Sale.{bidder_name}
use Rattle.bid_forms.specs.Offers.{Offers}

-- the text of a bidder's first form, among forms with the places of their texts
abbrev pub first_text : ℕ → List (Offers × ℕ) → Option ℕ
first_text bidder [] = None
first_text bidder (form ∷ more) = if form.0.bidder == bidder then Some form.1 else first_text bidder more

-- the fault of a form in this text, if its bidder's first form is in another
abbrev pub elsewhere : ℕ → (ℕ → AnotherForm) → Option ℕ → Option AnotherForm
elsewhere text another None = None
elsewhere text another (Some first) = if first == text then None else Some (another first)

-- the number of a form, the name of its bidder, and the text of the bidder's first form
abbrev pub another : Terms → ℕ → Offers → ℕ → AnotherForm
another t number form first = record { form = number; bidder = bidder_name (map (λ bidder. bidder.name) t.bidders) form.bidder; first_text = first }

-- the fault of a form, given the forms before it
abbrev pub another_form : Terms → List (Offers × ℕ) → Offers × ℕ → Option AnotherForm
another_form t before form = elsewhere form.1 (another t (length before + 1) form.0) (first_text form.0.bidder before)

-- the fault of the first form that is in another text than its bidder's first form, where each form is in the text of its number; none if the last
-- form of a bidder counts in whichever text it is
abbrev pub form_elsewhere : Bool → Terms → List ℕ → List Offers → Option AnotherForm
form_elsewhere last_wins t numbers forms = if last_wins then None else first_fault (another_form t) [] (zip forms numbers)

-- the forms, if each is in the same text as its bidder's first form, or the refusal of the first that isn't
abbrev pub in_one_text : Bool → Terms → List ℕ → List Offers → Result (List Offers) Refusal
in_one_text last_wins t numbers forms = refused_as refusal.AnotherForm (unless (form_elsewhere last_wins t numbers forms) (Ok forms))

-- the first form that is in another text than its bidder's first one is known; and until there is one, the text of each bidder's first form
pub record KnowsTexts (t : Terms) (known : FormTexts) (forms : List (Offers × ℕ)) : Type 0 where
  pub refused : known.refused ≡ first_fault (another_form t) [] forms
  pub long : length known.first ≡ MOST_BIDDERS + 1
  pub first : known.refused ≡ None → (b : ℕ) → b < MOST_BIDDERS + 1 → slice_index_or known.first b None ≡ first_text b forms
