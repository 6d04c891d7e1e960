use Rattle.std.proofs.Common.{◌++◌, ◌≡◌, ℕ, List, Ok, inl, inr, refl}
use Rattle.answers.specs.Answer.{answer, shown_objects, shown_outcome}
use Rattle.answers.specs.declared.commands.verify.Proved.{Proved}
use Rattle.auction_input.specs.Auction.{parsed_auction}
use Rattle.auction_input.specs.Input.{Input}
use Rattle.auction_input.specs.LastForms.{HoldsParts}
use Rattle.auction_input.specs.declared.auction.Auction.{Auction}
use Rattle.auction_input.specs.declared.last_forms.FormParts.{FormParts}
use Rattle.answers.specs.Exact.{IsUnwritten}
use Rattle.answers.specs.Forms.{forms_objects}
use Rattle.answers.specs.inside.Forms.{held_as}
use Rattle.answers.specs.inside.Proved.{IsUnproved, outcome_held}
use Rattle.auction_input.specs.Settled.{held}
use Rattle.auction_input.specs.declared.refusal.Refusal.{Refusal}
use Rattle.auction_input.specs.declared.refusal.Refusal.TheVariants as refusal
use Rattle.auction_input.specs.declared.request.Objects.TheVariants as objects
use Rattle.auction_input.specs.declared.request.Request.TheVariants as request
use Rattle.award_objects.specs.Objects.{objects_shown}
use Rattle.bid_desk.specs.Sale.{sale_of}
use Rattle.auction_input.proofs.StageFacts.{next, stop}
use Rattle.auction_input.proofs.StepFacts.{if-err-of}
use Rattle.byte_sinks.specs.Sinks.{Outlet}
use Rattle.byte_sinks.specs.declared.json.Format.TheVariants as format
use Rattle.answers.proofs.AnswerFacts.{has-sold-to}
use Rattle.answers.proofs.CommandFacts.{cut-short}
use Rattle.answers.proofs.FormsFacts.{text-held}
use Rattle.answers.proofs.FormsFirstFacts.{no-auction-first, unjudged-first, unread-first, unsaid-first, verify-as-objects, with-forms, writes-objects}
use Rattle.answers.proofs.commands.objects.verify_as_objects.Goals as goal

pub returns-in_err-auction-clause-refused : goal.returns-in_err-auction-clause-refused
returns-in_err-auction-clause-refused g c =
    let input = c.args.input.now in
    let before = g.S.Sink.state c.args.out.now in
    let r = c.in_err-auction.field-0.0 in
    if-err-of (IsUnwritten (request.Objects (objects.Verify c.args.workers)) input before before) c.from_residual.result r c.from_residual.ensures.1
    (no-auction-first _ _ _ _ input (verify-as-objects c.args.workers input) before r c.in_err-auction.ensures.refuses)

abbrev text_of : Auction → Proved → List ℕ
text_of auction proved = objects_shown auction.book.rules (sale_of auction.book) auction.groups (outcome_held proved)

-- nothing is shown of an auction
unproved-first : (workers : ℕ) (input : Input) (auction : Auction) → parsed_auction (request.Verify workers) input ≡ Ok (held auction)
    → (before : Outlet) (r : Refusal) → IsUnproved (held auction) r → IsUnwritten (request.Objects (objects.Verify workers)) input before before r
unproved-first workers input auction parsed before r (inl refused) =
    unsaid-first _ _ _ _ input (verify-as-objects workers input) (held auction) parsed before r (stop _ _ r refused)
unproved-first workers input auction parsed before r (inr beyond) =
    unjudged-first _ _ _ _ input (verify-as-objects workers input) before r (held auction, parsed, beyond)

pub returns-in_err-proved-clause-refused : goal.returns-in_err-proved-clause-refused
returns-in_err-proved-clause-refused g c =
    let input = c.args.input.now in
    let before = g.S.Sink.state c.args.out.now in
    let r = c.in_err-proved.field-0.0 in
    if-err-of (IsUnwritten (request.Objects (objects.Verify c.args.workers)) input before before) c.from_residual-in_err-proved.result r
    c.from_residual-in_err-proved.ensures.1
    (unproved-first c.args.workers input c.in_ok-auction.auction c.in_ok-auction.ensures.parsed before r c.in_err-proved.ensures.refused)

-- the objects of what is shown
reports : (auction : Auction) (proved : Proved) → shown_outcome (held auction) ≡ Ok (outcome_held proved)
    → shown_objects (held auction) ≡ Ok (text_of auction proved)
reports auction proved shows = next _ (outcome_held proved) _ _ shows refl

pub returns-in_err-parts-clause-refused : goal.returns-in_err-parts-clause-refused
returns-in_err-parts-clause-refused g c =
    let input = c.args.input.now in
    let before = g.S.Sink.state c.args.out.now in
    let r = c.in_err-parts.field-0.0 in
    if-err-of (IsUnwritten (request.Objects (objects.Verify c.args.workers)) input before before) c.from_residual-in_err-parts.result r
    c.from_residual-in_err-parts.ensures.1
    (unread-first _ _ _ _ input (verify-as-objects c.args.workers input) (held c.in_ok-auction.auction) c.in_ok-auction.ensures.parsed
    (text_of c.in_ok-auction.auction c.in_ok-proved.proved)
    (reports c.in_ok-auction.auction c.in_ok-proved.proved c.in_ok-proved.ensures.shown) before r c.in_err-parts.ensures.refuses)

-- the objects of what is held, and of what is proved
is-answer : (workers : ℕ) (input : Input) (auction : Auction) (proved : Proved) (parts : FormParts)
    → parsed_auction (request.Verify workers) input ≡ Ok (held auction) → shown_outcome (held auction) ≡ Ok (outcome_held proved)
    → HoldsParts input parts → answer (request.Objects (objects.Verify workers)) input ≡ Ok (held_as format.Json parts ++ text_of auction proved)
is-answer workers input auction proved parts parsed shows holds =
    with-forms _ _ _ forms_objects input (verify-as-objects workers input) (held auction) parsed (text_of auction proved)
    (reports auction proved shows) (held_as format.Json parts) (text-held format.Json input parts holds)

pub returns-in_err-write_shown-clause-refused : goal.returns-in_err-write_shown-clause-refused
returns-in_err-write_shown-clause-refused g c =
    let before = g.S.Sink.state c.args.out.now in
    let after = g.S.Sink.state c.write_shown.new.out in
    let f = c.in_err-write_shown.field-0.0 in
    if-err-of (IsUnwritten (request.Objects (objects.Verify c.args.workers)) c.args.input.now before after) c.from_residual-in_err-write_shown.result
    (refusal.Write f) c.from_residual-in_err-write_shown.ensures.1
    (inl (cut-short _ (held_as format.Json c.in_ok-parts.parts ++ text_of c.in_ok-auction.auction c.in_ok-proved.proved) before after f
    (is-answer c.args.workers c.args.input.now c.in_ok-auction.auction c.in_ok-proved.proved c.in_ok-parts.parts c.in_ok-auction.ensures.parsed
    c.in_ok-proved.ensures.shown c.in_ok-parts.ensures.parsed) c.in_err-write_shown.ensures))

pub returns-clause-written : goal.returns-clause-written
returns-clause-written g c = (
  held_as format.Json c.in_ok-parts.parts ++ text_of c.in_ok-auction.auction c.in_ok-proved.proved,
  is-answer c.args.workers c.args.input.now c.in_ok-auction.auction c.in_ok-proved.proved c.in_ok-parts.parts c.in_ok-auction.ensures.parsed
      c.in_ok-proved.ensures.shown c.in_ok-parts.ensures.parsed,
  c.in_ok-write_shown.ensures,
)

pub returns-clause-true_objects : goal.returns-clause-true_objects
returns-clause-true_objects g c =
    writes-objects c.args.workers c.args.input.now (g.S.Sink.state c.args.out.now) (g.S.Sink.state c.write_shown.new.out)
    (returns-clause-written g c)

pub returns-clause-sold : goal.returns-clause-sold
returns-clause-sold g c =
    has-sold-to (request.Verify c.args.workers) c.args.input.now (held c.in_ok-auction.auction) c.in_ok-auction.ensures.sold
