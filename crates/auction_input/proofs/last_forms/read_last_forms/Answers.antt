use Rattle.std.proofs.Common.{◌≡◌, ◌∙◌, Bor, List, ℕ, Ok, ap, inr, length, refl, subst, sym, [], None, Some}
use Rattle.std.proofs.lemmas.List.{length-map}
use Rattle.std.specs.List.{zip}
use Rattle.std.specs.Prelude.{codes}
use Rattle.auction_input.specs.CallLimit.{one_too_many}
use Rattle.auction_input.specs.LastForms.{HoldsLast, parsed_forms}
use Rattle.auction_input.specs.ParsedParts.{only_text}
use Rattle.auction_input.specs.ParsedTexts.{parsed_form, parsed_terms}
use Rattle.auction_input.specs.Parts.{parts_held, parts_named}
use Rattle.auction_input.specs.Refused.{Refuses}
use Rattle.auction_input.specs.declared.parts.Part.{Part}
use Rattle.auction_input.specs.declared.refusal.Refusal.TheVariants as refusal
use Rattle.auction_input.proofs.LastFormFacts.{each-refused, elsewhere-refused, forms-are, limit-refused, read_so, rules-refused}
use Rattle.auction_input.proofs.StageFacts.{each-count, stop}
use Rattle.auction_input.proofs.StepFacts.{if-err-of}
use Rattle.auction_terms.specs.FirstFault.{first_fault}
use Rattle.auction_terms.specs.Lines.{bytes_of}
use Rattle.auction_terms.specs.Stages.{each_in_turn}
use Rattle.auction_terms.specs.Terms.{Terms}
use Rattle.bid_forms.specs.Offers.{Offers}
use Rattle.auction_input.proofs.last_forms.read_last_forms.Goals as goal

-- the bytes of the rules, of a slice of all parts
rules-text : {slice items : List Part} {text : List ℕ} → slice ≡ items → text ≡ only_text (parts_named (codes "%rules") (parts_held slice))
    → text ≡ only_text (parts_named (codes "%rules") (parts_held items))
rules-text same is = is ∙ ap (λ (ps : List Part). only_text (parts_named (codes "%rules") (parts_held ps))) same

rules-read : {slice items : List Part} {text : List ℕ} {t : Terms} → slice ≡ items → text ≡ only_text (parts_named (codes "%rules") (parts_held slice))
    → parsed_terms text ≡ Ok t → parsed_terms (only_text (parts_named (codes "%rules") (parts_held items))) ≡ Ok t
rules-read {slice} {items} {text} {t} same is parsed = subst (λ (xs : List ℕ). parsed_terms xs ≡ Ok t) (rules-text same is) parsed

-- and those of the forms
texts-read : {slice items : List Part} {texts all : List (Bor (List ℕ))} → slice ≡ items
    → bytes_of texts ≡ parts_named (codes "%form") (parts_held slice) → all ≡ texts
    → bytes_of all ≡ parts_named (codes "%form") (parts_held items)
texts-read same is whole = ap bytes_of whole ∙ is ∙ ap (λ (ps : List Part). parts_named (codes "%form") (parts_held ps)) same

pub returns-in_err-parts-clause-refuses : goal.returns-in_err-parts-clause-refuses
returns-in_err-parts-clause-refuses g c =
    let r = c.in_err-parts.field-0.0 in
    if-err-of (Refuses (parsed_forms c.args.input.now)) c.from_residual.result r c.from_residual.ensures.1 (stop _ _ r c.in_err-parts.ensures.refuses)

pub returns-in_err-rules-clause-refuses : goal.returns-in_err-rules-clause-refuses
returns-in_err-rules-clause-refuses g c =
    let input = c.args.input.now in
    let parts = parts_held c.in_ok-parts.parts.items in
    let r = c.in_err-rules.field-0.0 in
    let refused = subst (λ (xs : List ℕ). Refuses (parsed_terms xs) r) (rules-text c.as_slice.ensures.value c.text_of-bytes.ensures) c.in_err-rules.ensures.refuses in
    if-err-of (Refuses (parsed_forms input)) c.from_residual-in_err-rules.result r c.from_residual-in_err-rules.ensures.1
    (rules-refused input parts c.in_ok-parts.ensures.parsed r refused)

pub returns-in_err-texts-clause-refuses : goal.returns-in_err-texts-clause-refuses
returns-in_err-texts-clause-refuses g c =
    if-err-of (Refuses (parsed_forms c.args.input.now)) c.from_residual-in_err-texts.result refusal.OutOfMemory c.from_residual-in_err-texts.ensures.1 (inr refl)

pub returns-in_err-forms-clause-refuses : goal.returns-in_err-forms-clause-refuses
returns-in_err-forms-clause-refuses g c =
    let input = c.args.input.now in
    let parts = parts_held c.in_ok-parts.parts.items in
    let t = c.in_ok-rules.rules in
    let r = c.in_err-forms.field-0.0 in
    let rules = rules-read c.as_slice.ensures.value c.text_of-bytes.ensures c.in_ok-rules.ensures.parsed in
    let texts = texts-read c.as_slice-2.ensures.value c.in_ok-texts.ensures c.as_slice-3.ensures.value in
    let refused = subst (λ (xs : List (List ℕ)). Refuses (each_in_turn (parsed_form t) 1 xs) r) texts c.in_err-forms.ensures.refuses in
    if-err-of (Refuses (parsed_forms input)) c.from_residual-in_err-forms.result r c.from_residual-in_err-forms.ensures.1
    (each-refused input parts c.in_ok-parts.ensures.parsed t rules r refused)

pub check_texts-requires : goal.check_texts-requires
check_texts-requires g c =
    let texts = texts-read c.as_slice-2.ensures.value c.in_ok-texts.ensures c.as_slice-3.ensures.value
    ∙ ap (λ (ps : List Part). parts_named (codes "%form") (parts_held ps)) (sym c.as_slice-4.ensures.value) in
    ap length (sym texts)
    ∙ sym (each-count (parsed_form c.in_ok-rules.rules) 1 _ c.in_ok-forms.forms.items c.in_ok-forms.ensures.parsed)
    ∙ ap length (sym c.as_slice-5.ensures.value)

pub returns-in_err-check_texts-clause-refuses : goal.returns-in_err-check_texts-clause-refuses
returns-in_err-check_texts-clause-refuses g c =
    let input = c.args.input.now in
    let parts = parts_held c.in_ok-parts.parts.items in
    let t = c.in_ok-rules.rules in
    let forms = c.in_ok-forms.forms.items in
    let r = c.in_err-check_texts.field-0.0 in
    let rules = rules-read c.as_slice.ensures.value c.text_of-bytes.ensures c.in_ok-rules.ensures.parsed in
    let texts = texts-read c.as_slice-2.ensures.value c.in_ok-texts.ensures c.as_slice-3.ensures.value in
    let each = subst (λ (xs : List (List ℕ)). each_in_turn (parsed_form t) 1 xs ≡ Ok forms) texts c.in_ok-forms.ensures.parsed in
    let refused = rw (c.as_slice-4.ensures.value, c.as_slice-5.ensures.value, c.last_wins.ensures) at c.in_err-check_texts.ensures.refuses in
    if-err-of (Refuses (parsed_forms input)) c.from_residual-in_err-check_texts.result r c.from_residual-in_err-check_texts.ensures.1
    (elsewhere-refused input parts c.in_ok-parts.ensures.parsed t rules forms each r refused)

pub returns-in_err-check_calls-clause-refuses : goal.returns-in_err-check_calls-clause-refuses
returns-in_err-check_calls-clause-refuses g c =
    let input = c.args.input.now in
    let parts = parts_held c.in_ok-parts.parts.items in
    let t = c.in_ok-rules.rules in
    let forms = c.in_ok-forms.forms.items in
    let r = c.in_err-check_calls.field-0.0 in
    let rules = rules-read c.as_slice.ensures.value c.text_of-bytes.ensures c.in_ok-rules.ensures.parsed in
    let texts = texts-read c.as_slice-2.ensures.value c.in_ok-texts.ensures c.as_slice-3.ensures.value in
    let each = subst (λ (xs : List (List ℕ)). each_in_turn (parsed_form t) 1 xs ≡ Ok forms) texts c.in_ok-forms.ensures.parsed in
    let alone = rw (c.as_slice-4.ensures.value, c.as_slice-5.ensures.value, c.last_wins.ensures) at c.in_ok-check_texts.ensures.accepted in
    let found = c.in_err-check_calls.ensures.refused in
    let limit = subst (λ (xs : List Offers). first_fault one_too_many [] xs ≡ Some found.0) c.as_slice-6.ensures.value found.1 in
    if-err-of (Refuses (parsed_forms input)) c.from_residual-in_err-check_calls.result r c.from_residual-in_err-check_calls.ensures.1
    (limit-refused input parts c.in_ok-parts.ensures.parsed t rules forms each alone found.0 r limit found.2)

pub last_forms-last-requires : goal.last_forms-last-requires
last_forms-last-requires g c =
    ap length c.as_slice-8.ensures.value
    ∙ sym (length-map c.in_ok-texts.texts.items (λ (text : Bor (List ℕ)). text.now))
    ∙ ap length (ap bytes_of (sym c.as_slice-3.ensures.value))
    ∙ sym (each-count (parsed_form c.in_ok-rules.rules) 1 _ c.in_ok-forms.forms.items c.in_ok-forms.ensures.parsed)
    ∙ ap length (sym c.as_slice-7.ensures.value)

pub returns-clause-parsed : goal.returns-clause-parsed
returns-clause-parsed g c =
    let input = c.args.input.now in
    let parts = parts_held c.in_ok-parts.parts.items in
    let t = c.in_ok-rules.rules in
    let forms = c.in_ok-forms.forms.items in
    let rules = rules-read c.as_slice.ensures.value c.text_of-bytes.ensures c.in_ok-rules.ensures.parsed in
    let texts = texts-read c.as_slice-2.ensures.value c.in_ok-texts.ensures c.as_slice-3.ensures.value in
    let each = subst (λ (xs : List (List ℕ)). each_in_turn (parsed_form t) 1 xs ≡ Ok forms) texts c.in_ok-forms.ensures.parsed in
    let alone = rw (c.as_slice-4.ensures.value, c.as_slice-5.ensures.value, c.last_wins.ensures) at c.in_ok-check_texts.ensures.accepted in
    let accepted = subst (λ (xs : List Offers). first_fault one_too_many [] xs ≡ None) c.as_slice-6.ensures.value c.in_ok-check_calls.ensures.accepted in
    let kept = ap bytes_of (c.as_slice-8.ensures.value ∙ sym c.as_slice-3.ensures.value) ∙ texts in
    record {
      read = read_so input parts c.in_ok-parts.ensures.parsed t rules forms each alone;
      parsed = forms-are input parts c.in_ok-parts.ensures.parsed t rules forms each alone accepted;
      bytes = rules-text c.as_slice.ensures.value c.text_of-bytes.ensures;
      rules = refl;
      last = subst (λ (xs : List (List ℕ)). HoldsLast c.last_forms-last.result (zip forms xs)) kept
          (rw c.as_slice-7.ensures.value at c.last_forms-last.ensures);
    }
