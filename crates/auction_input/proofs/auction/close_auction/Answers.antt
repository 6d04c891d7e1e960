use Rattle.std.proofs.Common.{◌≡◌, ◌∙◌, ap, refl, inr, List, ℕ, Ok, inl, subst, sym}
use Rattle.auction_terms.specs.Terms.{Terms}
use Rattle.auction_input.specs.Parts.{parts_held}
use Rattle.auction_input.specs.Refused.{Refuses}
use Rattle.auction_input.specs.ParsedTexts.{parsed_terms}
use Rattle.auction_input.specs.declared.refusal.Refusal.TheVariants as refusal
use Rattle.auction_input.specs.inside.Auctions.{RefusesRun, Tell, bidders_of}
use Rattle.auction_input.proofs.AuctionFacts.{round-refused, terms-refused}
use Rattle.auction_input.proofs.StepFacts.{if-err-of}
use Rattle.auction_input.proofs.auction.close_auction.Goals as goal

pub read_offers-requires-clause-rules : goal.read_offers-requires-clause-rules
read_offers-requires-clause-rules g c = λ _ _. subst (λ (xs : List ℕ). parsed_terms xs ≡ Ok c.in_ok-rules.rules) c.text_of.ensures c.in_ok-rules.ensures.parsed

pub returns-in_err-rules-clause-refuses : goal.returns-in_err-rules-clause-refuses
returns-in_err-rules-clause-refuses g c =
    let parts = parts_held c.args.parts.now in
    let r = c.in_err-rules.field-0.0 in
    let refused = subst (λ (xs : List ℕ). Refuses (parsed_terms xs) r) c.text_of.ensures c.in_err-rules.ensures.refuses in
    if-err-of (RefusesRun c.args.last_wins parts) c.from_residual.result r c.from_residual.ensures.1
    (inl (λ asked input same cut. terms-refused asked input c.args.last_wins same parts cut r refused))

pub returns-in_err-forms-clause-refuses : goal.returns-in_err-forms-clause-refuses
returns-in_err-forms-clause-refuses g c =
    let r = c.in_err-forms.field-0.0 in
    if-err-of (RefusesRun c.args.last_wins (parts_held c.args.parts.now)) c.from_residual-in_err-forms.result r
    c.from_residual-in_err-forms.ensures.1 (inl c.in_err-forms.ensures.refuses)

pub returns-in_err-form_bidders-clause-refuses : goal.returns-in_err-form_bidders-clause-refuses
returns-in_err-form_bidders-clause-refuses g c =
    if-err-of (RefusesRun c.args.last_wins (parts_held c.args.parts.now)) c.from_residual-in_err-form_bidders.result refusal.OutOfMemory
    c.from_residual-in_err-form_bidders.ensures.1 (inl (λ asked input same cut. inr refl))

pub returns-in_err-book-clause-refuses : goal.returns-in_err-book-clause-refuses
returns-in_err-book-clause-refuses g c =
    let parts = parts_held c.args.parts.now in
    let f = c.in_err-book.field-0.0 in
    if-err-of (RefusesRun c.args.last_wins parts) c.from_residual-in_err-book.result (refusal.Round f) c.from_residual-in_err-book.ensures.1
    (round-refused c.args.last_wins parts c.in_ok-rules.rules c.in_ok-forms.forms.items c.in_ok-forms.groups c.in_ok-forms.ensures.parsed f)

pub returns-clause-parsed : goal.returns-clause-parsed
returns-clause-parsed g c =
    let forms = c.in_ok-forms.forms.items in
    let groups = c.in_ok-forms.groups in
    record {
      forms = forms;
      bidders_are = c.in_ok-form_bidders.ensures ∙ ap bidders_of c.as_slice.ensures.value;
      parsed = subst (λ (t : Terms). Tell c.args.last_wins (parts_held c.args.parts.now) t forms groups) (sym c.in_ok-book.ensures.rules)
          c.in_ok-forms.ensures.parsed;
      submitted = c.in_ok-book.ensures.submitted;
    }
