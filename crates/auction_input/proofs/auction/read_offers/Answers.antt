use Rattle.std.proofs.Common.{◌≡◌, ◌∙◌, List, ℕ, Ok, ap, inr, length, refl, subst, sym, [], None, Some}
use Rattle.bid_forms.specs.Offers.{Offers}
use Rattle.auction_input.specs.CallLimit.{one_too_many}
use Rattle.std.specs.Prelude.{codes}
use Rattle.auction_input.specs.FormTexts.{form_elsewhere, in_one_text}
use Rattle.auction_input.specs.Parts.{parts_held, text_numbers}
use Rattle.auction_input.specs.Refused.{Refuses}
use Rattle.auction_input.specs.ParsedTexts.{parsed_form, parsed_groups}
use Rattle.auction_input.specs.declared.refusal.Refusal.TheVariants as refusal
use Rattle.auction_input.specs.inside.Auctions.{RefusesInputs}
use Rattle.auction_terms.specs.Lines.{bytes_of}
use Rattle.auction_terms.specs.FirstFault.{first_fault}
use Rattle.auction_terms.specs.Stages.{each_in_turn}
use Rattle.auction_input.proofs.AuctionFacts.{calls-refused, forms-refused, groups-refused, texts-refused}
use Rattle.auction_input.proofs.StageFacts.{each-count}
use Rattle.auction_input.proofs.StepFacts.{if-err-of}
use Rattle.auction_input.proofs.auction.read_offers.Goals as goal

pub returns-in_err-texts-clause-refuses : goal.returns-in_err-texts-clause-refuses
returns-in_err-texts-clause-refuses g c =
    if-err-of (RefusesInputs c.args.last_wins (parts_held c.args.parts.now)) c.from_residual.result refusal.OutOfMemory
    c.from_residual.ensures.1 (λ asked input same cut. inr refl)

pub returns-in_err-forms-clause-refuses : goal.returns-in_err-forms-clause-refuses
returns-in_err-forms-clause-refuses g c =
    let parts = parts_held c.args.parts.now in
    let t = c.args.rules.now in
    let r = c.in_err-forms.field-0.0 in
    let texts = ap bytes_of c.as_slice.ensures.value ∙ c.in_ok-texts.ensures in
    let refused = subst (λ (xs : List (List ℕ)). Refuses (each_in_turn (parsed_form t) 1 xs) r) texts c.in_err-forms.ensures.refuses in
    if-err-of (RefusesInputs c.args.last_wins parts) c.from_residual-in_err-forms.result r c.from_residual-in_err-forms.ensures.1
    (λ asked input same cut. forms-refused asked input c.args.last_wins same parts cut t c.requires.rules r refused)

pub check_texts-requires : goal.check_texts-requires
check_texts-requires g c =
    ap length (sym (ap bytes_of c.as_slice.ensures.value ∙ c.in_ok-texts.ensures))
    ∙ sym (each-count (parsed_form c.args.rules.now) 1 _ c.in_ok-forms.forms.items c.in_ok-forms.ensures.parsed)
    ∙ ap length (sym c.as_slice-2.ensures.value)

pub returns-in_err-check_texts-clause-refuses : goal.returns-in_err-check_texts-clause-refuses
returns-in_err-check_texts-clause-refuses g c =
    let parts = parts_held c.args.parts.now in
    let t = c.args.rules.now in
    let forms = c.in_ok-forms.forms.items in
    let r = c.in_err-check_texts.field-0.0 in
    let texts = ap bytes_of c.as_slice.ensures.value ∙ c.in_ok-texts.ensures in
    let each = subst (λ (xs : List (List ℕ)). each_in_turn (parsed_form t) 1 xs ≡ Ok forms) texts c.in_ok-forms.ensures.parsed in
    let refused = subst (λ (xs : List Offers). Refuses (in_one_text c.args.last_wins t (text_numbers (codes "%form") parts) xs) r)
    c.as_slice-2.ensures.value c.in_err-check_texts.ensures.refuses in
    if-err-of (RefusesInputs c.args.last_wins parts) c.from_residual-in_err-check_texts.result r c.from_residual-in_err-check_texts.ensures.1
    (λ asked input same cut. texts-refused asked input c.args.last_wins same parts cut t c.requires.rules forms each r refused)

pub returns-in_err-groups-clause-refuses : goal.returns-in_err-groups-clause-refuses
returns-in_err-groups-clause-refuses g c =
    let parts = parts_held c.args.parts.now in
    let t = c.args.rules.now in
    let forms = c.in_ok-forms.forms.items in
    let r = c.in_err-groups.field-0.0 in
    let texts = ap bytes_of c.as_slice.ensures.value ∙ c.in_ok-texts.ensures in
    let each = subst (λ (xs : List (List ℕ)). each_in_turn (parsed_form t) 1 xs ≡ Ok forms) texts c.in_ok-forms.ensures.parsed in
    let alone = subst (λ (xs : List Offers). form_elsewhere c.args.last_wins t (text_numbers (codes "%form") parts) xs ≡ None)
    c.as_slice-2.ensures.value c.in_ok-check_texts.ensures.accepted in
    let refused = subst (λ (xs : List ℕ). Refuses (parsed_groups t xs) r) c.text_of.ensures c.in_err-groups.ensures.refuses in
    if-err-of (RefusesInputs c.args.last_wins parts) c.from_residual-in_err-groups.result r c.from_residual-in_err-groups.ensures.1
    (λ asked input same cut. groups-refused asked input c.args.last_wins same parts cut t c.requires.rules forms each alone r refused)

pub returns-in_err-check_calls-clause-refuses : goal.returns-in_err-check_calls-clause-refuses
returns-in_err-check_calls-clause-refuses g c =
    let parts = parts_held c.args.parts.now in
    let t = c.args.rules.now in
    let forms = c.in_ok-forms.forms.items in
    let groups = c.in_ok-groups.groups in
    let r = c.in_err-check_calls.field-0.0 in
    let texts = ap bytes_of c.as_slice.ensures.value ∙ c.in_ok-texts.ensures in
    let each = subst (λ (xs : List (List ℕ)). each_in_turn (parsed_form t) 1 xs ≡ Ok forms) texts c.in_ok-forms.ensures.parsed in
    let known = subst (λ (xs : List ℕ). parsed_groups t xs ≡ Ok groups) c.text_of.ensures c.in_ok-groups.ensures.parsed in
    let alone = subst (λ (xs : List Offers). form_elsewhere c.args.last_wins t (text_numbers (codes "%form") parts) xs ≡ None)
    c.as_slice-2.ensures.value c.in_ok-check_texts.ensures.accepted in
    let found = c.in_err-check_calls.ensures.refused in
    let limit = subst (λ (xs : List Offers). first_fault one_too_many [] xs ≡ Some found.0) c.as_slice-3.ensures.value found.1 in
    if-err-of (RefusesInputs c.args.last_wins parts) c.from_residual-in_err-check_calls.result r c.from_residual-in_err-check_calls.ensures.1
    (λ asked input same cut. calls-refused asked input c.args.last_wins same parts cut t c.requires.rules forms each alone groups known found.0 r limit found.2)

pub returns-clause-parsed : goal.returns-clause-parsed
returns-clause-parsed g c =
    let t = c.args.rules.now in
    let forms = c.in_ok-forms.forms.items in
    let groups = c.in_ok-groups.groups in
    let texts = ap bytes_of c.as_slice.ensures.value ∙ c.in_ok-texts.ensures in
    record {
      rules = c.requires.rules;
      each = subst (λ (xs : List (List ℕ)). each_in_turn (parsed_form t) 1 xs ≡ Ok forms) texts c.in_ok-forms.ensures.parsed;
      known = subst (λ (xs : List ℕ). parsed_groups t xs ≡ Ok groups) c.text_of.ensures c.in_ok-groups.ensures.parsed;
      alone = subst (λ (xs : List Offers). form_elsewhere c.args.last_wins t (text_numbers (codes "%form") (parts_held c.args.parts.now)) xs
          ≡ None) c.as_slice-2.ensures.value c.in_ok-check_texts.ensures.accepted;
      accepted = subst (λ (xs : List Offers). first_fault one_too_many [] xs ≡ None) c.as_slice-3.ensures.value c.in_ok-check_calls.ensures.accepted;
    }
