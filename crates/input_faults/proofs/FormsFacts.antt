-- Forms that are read one after the other, whatever the others are.
use Rattle.std.proofs.Common.{◌≡◌, ◌≤◌, ◌<◌, ◌+◌, ◌++◌, ◌∷◌, ◌∙◌, [], ℕ, Bool, true, false, List, Ok, Err, ap, arith, drop}
use Rattle.std.proofs.Common.{drop_of_length-le, length, length-take-le, slice_index_or, subst, sym, take, take_all}
use Rattle.std.proofs.lemmas.List.{length-append, take_more}
use Rattle.std.specs.List.{zip}
use Rattle.auction_input.proofs.InputTextFacts.{Text}
use Rattle.auction_input.proofs.StageFacts.{IsLeft, left-fault, left-more, left-none}
use Rattle.auction_input.proofs.FormTextFacts.{length-zip, zip-more}
use Rattle.auction_input.specs.CallLimit.{CountsCalls}
use Rattle.auction_input.specs.FormTexts.{KnowsTexts, another_form}
use Rattle.auction_input.specs.ParsedTexts.{parsed_form}
use Rattle.auction_input.specs.declared.call_limit.Calls.{Calls}
use Rattle.auction_input.specs.declared.form_texts.FormTexts.{FormTexts}
use Rattle.auction_input.specs.declared.refusal.Refusal.{Refusal}
use Rattle.auction_terms.specs.Lines.{bytes_of}
use Rattle.auction_terms.specs.Stages.{each_in_turn}
use Rattle.auction_terms.specs.Terms.{Terms}
use Rattle.bid_forms.specs.Offers.{Offers}
use Rattle.auction_terms.specs.FirstFault.{first_fault}
use Rattle.input_faults.specs.InputFaults.{call_fault, text_fault}

-- what is counted of forms, and known of their texts
pub record Seen : Type 0 where
  pub calls : Calls
  pub known : FormTexts

-- of the forms before a place, each in the text of its number, either each is read and its call and its text are counted, or a refusal is known
abbrev pub HasRead : Bool → Terms → List Text → List ℕ → ℕ → Seen → Type 0
HasRead true t texts numbers place seen =
    (forms : List Offers) × (length forms ≡ place) × IsLeft (parsed_form t) (place + 1) (bytes_of texts) forms (bytes_of (drop place texts))
    × CountsCalls seen.calls forms × KnowsTexts t seen.known (zip forms (take place numbers))
HasRead false t texts numbers place seen = (r : Refusal) × (each_in_turn (parsed_form t) 1 (bytes_of texts) ≡ Err r)

-- one form more is read
pub form-more : (read : Bool) (t : Terms) (texts : List Text) (numbers : List ℕ) (place : ℕ) (old new : Seen) (text : List ℕ)
    (form : Offers) → place < length numbers → HasRead read t texts numbers place old
    → bytes_of (drop place texts) ≡ text ∷ bytes_of (drop (place + 1) texts) → parsed_form t (place + 1) text ≡ Ok form
    → ((forms : List Offers) → CountsCalls old.calls forms → place + 1 ≡ length forms + 1 → CountsCalls new.calls (forms ++ form ∷ []))
    → ((forms : List (Offers × ℕ)) → KnowsTexts t old.known forms → place + 1 ≡ length forms + 1 → KnowsTexts t new.known
    (forms ++ (form, slice_index_or numbers place 0) ∷ [])) → HasRead read t texts numbers (place + 1) new
form-more true t texts numbers place old new text form within (forms, count, left, counts, knows) next reported more known_more =
    let size = length-append forms (form ∷ []) in
    let here = subst (λ (rest : List (List ℕ)). IsLeft (parsed_form t) (place + 1) (bytes_of texts) forms rest) next left in
    let number = slice_index_or numbers place 0 in
    let taken : take (place + 1) numbers ≡ take place numbers ++ number ∷ [] = take_more numbers place 0 within in
    let as_many : length (take place numbers) ≡ length forms = length-take-le place numbers (omega arith) ∙ sym count in
    let pairs = length-zip forms (take place numbers) as_many in
    let all : zip (forms ++ form ∷ []) (take (place + 1) numbers) ≡ zip forms (take place numbers) ++ (form, number) ∷ [] =
    ap (zip (forms ++ form ∷ [])) taken ∙ zip-more forms (take place numbers) form number as_many in (
      forms ++ form ∷ [],
      omega arith,
      left-more (parsed_form t) (place + 1) (bytes_of texts) forms text (bytes_of (drop (place + 1) texts)) form here reported,
      more forms counts (omega arith),
      subst (KnowsTexts t new.known) (sym all) (known_more (zip forms (take place numbers)) knows (omega arith)),
    )
form-more false t texts numbers place old new text form within refused next reported more known_more = refused

-- a form is refused
pub form-less : (read : Bool) (t : Terms) (texts : List Text) (numbers : List ℕ) (place : ℕ) (old new : Seen) (text : List ℕ) (r : Refusal)
    → HasRead read t texts numbers place old
    → bytes_of (drop place texts) ≡ text ∷ bytes_of (drop (place + 1) texts) → parsed_form t (place + 1) text ≡ Err r
    → HasRead false t texts numbers (place + 1) new
form-less true t texts numbers place old new text r (forms, count, left, counts, knows) next reported =
    let here = subst (λ (rest : List (List ℕ)). IsLeft (parsed_form t) (place + 1) (bytes_of texts) forms rest) next left in
    (r, left-fault (parsed_form t) (place + 1) (bytes_of texts) forms text (bytes_of (drop (place + 1) texts)) r here reported)
form-less false t texts numbers place old new text r refused next reported = refused

-- all are read
module _ (t : Terms) (texts : List Text) (numbers : List ℕ) (place : ℕ) (seen : Seen) (all : length texts ≤ place)
    (has : HasRead true t texts numbers place seen) where
  each-read : each_in_turn (parsed_form t) 1 (bytes_of texts) ≡ Ok has.0
  each-read =
      let (forms, count, left, counts, knows) = has in
      let none = drop_of_length-le texts all in
      left-none (parsed_form t) (place + 1) (bytes_of texts) forms (subst
      (λ (rest : List Text). IsLeft (parsed_form t) (place + 1) (bytes_of texts) forms (bytes_of rest)) none left)

  pub calls-known : seen.calls.refused ≡ call_fault (each_in_turn (parsed_form t) 1 (bytes_of texts))
  calls-known =
      let (forms, count, left, counts, knows) = has in
      counts.refused ∙ ap call_fault (sym each-read)

  pub texts-known : length numbers ≡ length texts → seen.known.refused ≡ text_fault false t numbers (each_in_turn (parsed_form t) 1 (bytes_of texts))
  texts-known as_many =
      let (forms, count, left, counts, knows) = has in
      let whole : take place numbers ≡ numbers = take_all place numbers (omega arith) in
      knows.refused ∙ ap (λ (ns : List ℕ). first_fault (another_form t) [] (zip forms ns)) whole ∙ ap (text_fault false t numbers) (sym each-read)
