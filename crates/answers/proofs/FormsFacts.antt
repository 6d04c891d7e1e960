-- What is said of forms, by what is held of the last ones, is what is said of those of the input.
use Rattle.std.proofs.Common.{◌≡◌, ◌≤◌, ◌+◌, ◌++◌, ◌∷◌, ◌∙◌, [], ℕ, List, Option, None, Some, Result, Ok, ap, ap₂, arith, length, refl, slice_index_or, subst, sym}
use Rattle.std.specs.Prelude.{codes, decimal, option_map}
use Rattle.answers.specs.Answer.{answer}
use Rattle.answers.specs.Forms.{digest, form_line, form_object}
use Rattle.answers.specs.inside.Forms.{forms_request, held_as, held_in, rules_as}
use Rattle.byte_sinks.specs.Objects.{named_number_if, named_text, named_text_if, object_text}
use Rattle.byte_sinks.specs.declared.json.Format.{Format}
use Rattle.byte_sinks.specs.declared.json.Format.TheVariants as format
use Rattle.auction_input.specs.Input.{Input}
use Rattle.auction_input.specs.LastForms as read
use Rattle.auction_input.specs.LastForms.{HoldsLast, HoldsParts, counted, counted_held, last_form, parsed_forms}
use Rattle.auction_input.specs.CallLimit.{one_too_many}
use Rattle.auction_input.specs.FormTexts.{in_one_text}
use Rattle.auction_input.specs.ParsedParts.{only_text, parsed_parts}
use Rattle.auction_input.specs.ParsedTexts.{parsed_form, parsed_terms}
use Rattle.auction_input.specs.Parts.{parts_named, text_numbers}
use Rattle.auction_input.specs.declared.refusal.Refusal.TheVariants as refusal
use Rattle.auction_input.proofs.AnswerFacts.{ok-after, ok-refused_as, unless-ok}
use Rattle.auction_input.proofs.LimitFacts.{terms-few}
use Rattle.auction_input.proofs.StageFacts.{refuses-as, stop}
use Rattle.auction_input.specs.Refused.{Refuses}
use Rattle.auction_terms.specs.FirstFault.{first_fault}
use Rattle.auction_input.specs.declared.last_forms.FormParts.{FormParts}
use Rattle.auction_input.specs.declared.last_forms.LastForm.{LastForm}
use Rattle.auction_input.specs.declared.last_forms.LastForms.{LastForms}
use Rattle.auction_input.specs.declared.refusal.Refusal.{Refusal}
use Rattle.auction_input.specs.declared.request.Request.TheVariants.{Forms}
use Rattle.auction_terms.specs.Stages.{and_then, each_in_turn}
use Rattle.auction_terms.specs.Terms.{Terms}
use Rattle.auction_terms.specs.declared.limits.TheConstants.{MOST_BIDDERS}
use Rattle.auction_terms.specs.declared.rules.Bidder.{Bidder}
use Rattle.bid_forms.specs.Offers.{Offers}
use Rattle.outcome.specs.Report.{in_turn}

abbrev Read : Type 0
Read = Offers × List ℕ

-- what is said of a bidder whose last form has so many bids, and these bytes
abbrev said : Format → List ℕ → ℕ × List ℕ → List ℕ
said format.Words name pair = codes "%form " ++ (name ++ (32 ∷ (decimal pair.0 ++ (32 ∷ (digest pair.1 ++ 10 ∷ [])))))
said format.Json name pair = object_text (named_text (codes "form") name ∷ named_number_if (codes "bids") (Some pair.0) ∷ named_text_if (codes "sha256") (Some (digest pair.1)) ∷ [])

-- what is said of a bidder, by its last form
abbrev form_in : Format → List ℕ → Option Read → List ℕ
form_in format.Words name form = form_line name form
form_in format.Json name form = form_object name form

-- and by what is held
said-held : (f : Format) (name : List ℕ) (held : Option LastForm) (form : Option Read) → option_map counted_held held ≡ option_map counted form
    → held_in f name held ≡ form_in f name form
said-held format.Words name None None same = refl
said-held format.Json name None None same = refl
said-held f name None (Some form) same = cc
said-held f name (Some held) None same = cc
said-held format.Words name (Some held) (Some form) same =
    let counts : counted_held held ≡ counted form = cc in
    ap (λ (pair : ℕ × List ℕ). said format.Words name pair) counts
said-held format.Json name (Some held) (Some form) same =
    let counts : counted_held held ≡ counted form = cc in
    ap (λ (pair : ℕ × List ℕ). said format.Json name pair) counts

-- and of bidders whose numbers are k and those after it
all-held : (f : Format) (last : LastForms) (forms : List Read) → HoldsLast last forms → (bidders : List Bidder) (k : ℕ) → k + length bidders ≤ MOST_BIDDERS + 1
    → in_turn (λ number (bidder : Bidder). held_in f bidder.name (slice_index_or last.by_bidder number None)) k bidders
    ≡ in_turn (λ number (bidder : Bidder). form_in f bidder.name (last_form number forms)) k bidders
all-held f last forms holds [] k few = refl
all-held f last forms holds (bidder ∷ more) k few =
    ap₂ (λ (xs ys : List ℕ). xs ++ ys)
    (said-held f bidder.name (slice_index_or last.by_bidder k None) (last_form k forms) (holds.last k (omega arith)))
    (all-held f last forms holds more (k + 1) (omega arith))

-- the bidders of rules that are read are as many as a limit allows
few-bidders : (input : Input) (found : read.FormParts) → parsed_forms input ≡ Ok found → length found.rules.bidders ≤ MOST_BIDDERS
few-bidders input found parsed =
    let (parts, parts_are, more) = ok-after (parsed_parts Forms input) _ found parsed in
    let rules_text = only_text (parts_named (codes "%rules") parts) in
    let (t, t_is, more_forms) = ok-after (parsed_terms rules_text) _ found more in
    let (each, each_is, more_texts) = ok-after (each_in_turn (parsed_form t) 1 (parts_named (codes "%form") parts)) _ found more_forms in
    let (forms, forms_are, limit) = ok-after (in_one_text input.last_wins t (text_numbers (codes "%form") parts) each) _ found more_texts in
    let (accepted, is) = unless-ok (first_fault one_too_many [] forms) _ found (ok-refused_as refusal.CallLimit _ found limit) in
    subst (λ (r : read.FormParts). length r.rules.bidders ≤ MOST_BIDDERS) is (terms-few rules_text t t_is)

abbrev bidders_in : Format → List Read → List Bidder → List ℕ
bidders_in f forms bidders = in_turn (λ number (bidder : Bidder). form_in f bidder.name (last_form number forms)) 1 bidders

-- what `forms` writes of forms that are read
abbrev pub forms_as : Format → read.FormParts → List ℕ
forms_as f found = rules_as f found.bytes found.rules ++ bidders_in f found.forms found.rules.bidders

answered : (f : Format) (input : Input) → answer (forms_request f) input ≡ and_then (parsed_forms input) (λ found. Ok (forms_as f found))
answered format.Words input = refl
answered format.Json input = refl

-- forms that aren't read
pub refused-forms : (f : Format) (input : Input) (r : Refusal) → Refuses (parsed_forms input) r → Refuses (answer (forms_request f) input) r
refused-forms f input r refused = refuses-as _ _ r (answered f input) (stop _ _ r refused)

-- and of all
pub text-held : (f : Format) (input : Input) (parts : FormParts) → HoldsParts input parts → answer (forms_request f) input ≡ Ok (held_as f parts)
text-held f input parts holds =
    let few = few-bidders input holds.read holds.parsed in
    let same : length parts.rules.bidders ≡ length holds.read.rules.bidders = ap (λ (t : Terms). length t.bidders) holds.rules in
    answered f input
    ∙ ap (λ (r : Result read.FormParts Refusal). and_then r (λ found. Ok (forms_as f found))) holds.parsed
    ∙ ap (λ (bytes : List ℕ). Ok (rules_as f bytes holds.read.rules ++ bidders_in f holds.read.forms holds.read.rules.bidders)) (sym holds.bytes)
    ∙ ap (λ (t : Terms). Ok (rules_as f parts.bytes.now t ++ bidders_in f holds.read.forms t.bidders)) (sym holds.rules)
    ∙ ap (λ (xs : List ℕ). Ok (rules_as f parts.bytes.now parts.rules ++ xs)) (sym (all-held f parts.last holds.read.forms holds.last parts.rules.bidders 1 (omega arith)))
