-- What is read of the texts of forms.
use Rattle.std.specs.Prelude.{◌≡◌, ◌+◌, ◌++◌, ◌∷◌, ⊤, ℕ, List, Result, Ok, Err, IfOk, length, map}
use Rattle.auction_input.specs.declared.refusal.Refusal.{Refusal}
use Rattle.auction_input.specs.declared.refusal.Refusal.TheVariants as refusal
use Rattle.auction_terms.specs.Terms.{Terms}
use Rattle.auction_terms.specs.Stages.{Answers}
use Rattle.bid_forms.specs.FormText.{is_form_memory}
use Rattle.bid_forms.specs.Offers.{Meets, Offers}
use Rattle.bid_forms.specs.declared.form_text.FormFault.{FormFault}
use denote.Ref.{Bor}
use Rattle.auction_input.specs.ParsedTexts.{form_in}

-- this is what a text describes, or memory was short
pub record IsAnswer (t : Terms) (text : Bor (List ℕ)) (answer : Result Offers FormFault) : Type 0 where
  pub tells : Answers is_form_memory answer (form_in t text.now)
  pub meets : IfOk answer (Meets t)

-- all answers are forms, and come after those that were read before
abbrev pub AreAdded : List (Result Offers FormFault) → List Offers → List Offers → Type 0
AreAdded answers old new = (more : List Offers) × (new ≡ old ++ more) × (answers ≡ map (λ form. Ok form) more)

-- an answer that is a fault comes after forms alone, and has this number after so many forms; or memory was short
abbrev pub IsFirstErr : ℕ → List (Result Offers FormFault) → Refusal → Type 0
IsFirstErr count answers (refusal.Form n f) = (before : List Offers) × (after : List (Result Offers FormFault))
    × (answers ≡ map (λ form. Ok form) before ++ Err f ∷ after) × (n ≡ count + length before + 1)
IsFirstErr count answers refusal.OutOfMemory = ⊤
IsFirstErr count answers r = ⊥
