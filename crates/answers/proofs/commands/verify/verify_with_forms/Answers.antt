use Rattle.std.proofs.Common.{◌++◌, ◌≡◌, ℕ, Ok, inl, inr, refl}
use Rattle.answers.specs.Answer.{answer, output_of, shown_outcome}
use Rattle.answers.specs.declared.commands.verify.Proved.{Proved}
use Rattle.auction_input.specs.Auction.{parsed_auction}
use Rattle.auction_input.specs.Input.{Input}
use Rattle.auction_input.specs.LastForms.{HoldsParts}
use Rattle.auction_input.specs.declared.auction.Auction.{Auction}
use Rattle.auction_input.specs.declared.last_forms.FormParts.{FormParts}
use Rattle.answers.specs.Exact.{IsUnwritten}
use Rattle.answers.specs.Forms.{forms_text}
use Rattle.answers.specs.inside.Forms.{held_as}
use Rattle.answers.specs.inside.Proved.{IsUnproved, outcome_held, proved_text}
use Rattle.auction_input.specs.Settled.{held}
use Rattle.auction_input.specs.declared.refusal.Refusal.{Refusal}
use Rattle.auction_input.specs.declared.refusal.Refusal.TheVariants as refusal
use Rattle.auction_input.specs.declared.request.Request.TheVariants as request
use Rattle.auction_input.proofs.StageFacts.{next, stop}
use Rattle.auction_input.proofs.StepFacts.{if-err-of}
use Rattle.byte_sinks.specs.Sinks.{Outlet}
use Rattle.byte_sinks.specs.declared.json.Format.TheVariants as format
use Rattle.answers.proofs.AnswerFacts.{has-sold-to}
use Rattle.answers.proofs.CommandFacts.{cut-short}
use Rattle.answers.proofs.FormsFacts.{text-held}
use Rattle.answers.proofs.FormsFirstFacts.{no-auction-first, unjudged-first, unread-first, unsaid-first, verify-with-forms, with-forms, writes-with-forms}
use Rattle.answers.proofs.commands.verify.verify_with_forms.Goals as goal

pub returns-in_err-auction-clause-refused : goal.returns-in_err-auction-clause-refused
returns-in_err-auction-clause-refused g c =
    let input = c.args.input.now in
    let before = g.S.Sink.state c.args.out.now in
    let r = c.in_err-auction.field-0.0 in
    if-err-of (IsUnwritten (request.VerifyWithForms c.args.workers) input before before) c.from_residual.result r c.from_residual.ensures.1
    (no-auction-first _ _ _ _ input (verify-with-forms c.args.workers input) before r c.in_err-auction.ensures.refuses)

-- nothing is shown of an auction
unproved-first : (workers : ℕ) (input : Input) (auction : Auction) → parsed_auction (request.Verify workers) input ≡ Ok (held auction)
    → (before : Outlet) (r : Refusal) → IsUnproved (held auction) r → IsUnwritten (request.VerifyWithForms workers) input before before r
unproved-first workers input auction parsed before r (inl refused) =
    unsaid-first _ _ _ _ input (verify-with-forms workers input) (held auction) parsed before r (stop _ _ r refused)
unproved-first workers input auction parsed before r (inr beyond) =
    unjudged-first _ _ _ _ input (verify-with-forms workers input) before r (held auction, parsed, beyond)

pub returns-in_err-proved-clause-refused : goal.returns-in_err-proved-clause-refused
returns-in_err-proved-clause-refused g c =
    let input = c.args.input.now in
    let before = g.S.Sink.state c.args.out.now in
    let r = c.in_err-proved.field-0.0 in
    if-err-of (IsUnwritten (request.VerifyWithForms c.args.workers) input before before) c.from_residual-in_err-proved.result r
    c.from_residual-in_err-proved.ensures.1
    (unproved-first c.args.workers input c.in_ok-auction.auction c.in_ok-auction.ensures.parsed before r c.in_err-proved.ensures.refused)

-- the report of what is shown
reports : (workers : ℕ) (auction : Auction) (proved : Proved) → shown_outcome (held auction) ≡ Ok (outcome_held proved)
    → output_of (request.Verify workers) (held auction) ≡ Ok (proved_text auction proved)
reports workers auction proved shows = next _ (outcome_held proved) _ _ shows refl

pub returns-in_err-parts-clause-refused : goal.returns-in_err-parts-clause-refused
returns-in_err-parts-clause-refused g c =
    let input = c.args.input.now in
    let before = g.S.Sink.state c.args.out.now in
    let r = c.in_err-parts.field-0.0 in
    if-err-of (IsUnwritten (request.VerifyWithForms c.args.workers) input before before) c.from_residual-in_err-parts.result r
    c.from_residual-in_err-parts.ensures.1
    (unread-first _ _ _ _ input (verify-with-forms c.args.workers input) (held c.in_ok-auction.auction) c.in_ok-auction.ensures.parsed
    (proved_text c.in_ok-auction.auction c.in_ok-proved.proved)
    (reports c.args.workers c.in_ok-auction.auction c.in_ok-proved.proved c.in_ok-proved.ensures.shown) before r c.in_err-parts.ensures.refuses)

-- the lines of what is held, and what is proved
is-answer : (workers : ℕ) (input : Input) (auction : Auction) (proved : Proved) (parts : FormParts)
    → parsed_auction (request.Verify workers) input ≡ Ok (held auction) → shown_outcome (held auction) ≡ Ok (outcome_held proved)
    → HoldsParts input parts → answer (request.VerifyWithForms workers) input ≡ Ok (held_as format.Words parts ++ proved_text auction proved)
is-answer workers input auction proved parts parsed shows holds =
    with-forms _ _ _ forms_text input (verify-with-forms workers input) (held auction) parsed (proved_text auction proved)
    (reports workers auction proved shows) (held_as format.Words parts) (text-held format.Words input parts holds)

pub returns-in_err-write_after_forms-clause-refused : goal.returns-in_err-write_after_forms-clause-refused
returns-in_err-write_after_forms-clause-refused g c =
    let before = g.S.Sink.state c.args.out.now in
    let after = g.S.Sink.state c.write_after_forms.new.out in
    let f = c.in_err-write_after_forms.field-0.0 in
    if-err-of (IsUnwritten (request.VerifyWithForms c.args.workers) c.args.input.now before after) c.from_residual-in_err-write_after_forms.result
    (refusal.Write f) c.from_residual-in_err-write_after_forms.ensures.1
    (inl (cut-short _ (held_as format.Words c.in_ok-parts.parts ++ proved_text c.in_ok-auction.auction c.in_ok-proved.proved) before after f
    (is-answer c.args.workers c.args.input.now c.in_ok-auction.auction c.in_ok-proved.proved c.in_ok-parts.parts c.in_ok-auction.ensures.parsed
    c.in_ok-proved.ensures.shown c.in_ok-parts.ensures.parsed) c.in_err-write_after_forms.ensures))

pub returns-clause-written : goal.returns-clause-written
returns-clause-written g c = (
  held_as format.Words c.in_ok-parts.parts ++ proved_text c.in_ok-auction.auction c.in_ok-proved.proved,
  is-answer c.args.workers c.args.input.now c.in_ok-auction.auction c.in_ok-proved.proved c.in_ok-parts.parts c.in_ok-auction.ensures.parsed
      c.in_ok-proved.ensures.shown c.in_ok-parts.ensures.parsed,
  c.in_ok-write_after_forms.ensures,
)

pub returns-clause-verified : goal.returns-clause-verified
returns-clause-verified g c =
    writes-with-forms c.args.workers c.args.input.now (g.S.Sink.state c.args.out.now) (g.S.Sink.state c.write_after_forms.new.out)
    (returns-clause-written g c)

pub returns-clause-sold : goal.returns-clause-sold
returns-clause-sold g c =
    has-sold-to (request.Verify c.args.workers) c.args.input.now (held c.in_ok-auction.auction) c.in_ok-auction.ensures.sold
