-- What the texts of rules, forms and groups describe, or which refusal is the first.
use Rattle.std.specs.Prelude.{◌≡◌, ◌+◌, ◌++◌, ℕ, List, Result, Ok, All, length}
use Rattle.auction_input.specs.declared.refusal.Refusal.{Refusal}
use Rattle.auction_terms.specs.Stages.{each_in_turn}
use Rattle.auction_terms.specs.Terms.{Terms}
use Rattle.bid_forms.specs.Offers.{Meets, Offers}
use Rattle.auction_input.specs.ParsedTexts.{parsed_form}

-- what further forms describe, after so many
abbrev pub parsed_more : Terms → ℕ → List (List ℕ) → Result (List Offers) Refusal
parsed_more t count texts = each_in_turn (parsed_form t) (count + 1) texts

-- forms, and after them those that further texts describe
abbrev pub HaveMore : Terms → List (List ℕ) → List Offers → List Offers → Type 0
HaveMore t texts old new = (more : List Offers) × (new ≡ old ++ more) × (parsed_more t (length old) texts ≡ Ok more) × All (Meets t) more
