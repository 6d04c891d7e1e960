-- What is shown of a text.
use Rattle.std.proofs.Common.{◌≡◌, ℕ, List, true, arith, inl, inr, length, length-take, refl, take, take_all}
use Rattle.std.proofs.lemmas.Bool.{cases_Bool, lt-ltb, ltb-false, ltb-true}
use Rattle.std.proofs.lemmas.List.{take-take}
use Rattle.std.specs.Prelude.{nat_lt}
use Rattle.auction_terms.specs.declared.limits.TheConstants.{FRONT_LEN}
use Rattle.input_faults.specs.Shown.{shown_text}

-- the first bytes that are kept tell as much as all
pub front-shown : (text : List ℕ) → shown_text (take FRONT_LEN text) ≡ shown_text text
front-shown text =
    let size = length-take FRONT_LEN text in
    elim (cases_Bool (nat_lt 40 (length text))) [
      | inl is ↦ (
          let more = ltb-true 40 (length text) is in
          let same : nat_lt 40 (length (take FRONT_LEN text)) ≡ true = lt-ltb 40 (length (take FRONT_LEN text)) (omega arith) in
          rw (take-take 40 FRONT_LEN text (omega arith), same, is) refl)
      | inr is ↦ (
          let few = ltb-false 40 (length text) is in
          rw (take_all FRONT_LEN text (omega arith)) refl)
    ]
