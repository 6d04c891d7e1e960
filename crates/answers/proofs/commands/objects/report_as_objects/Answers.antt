use Rattle.std.proofs.Common.{◌++◌, ◌≡◌, ℕ, List, Ok, inl, inr, refl, subst}
use Rattle.answers.specs.Answer.{answer, reported_objects}
use Rattle.answers.specs.Exact.{IsUnwritten}
use Rattle.answers.specs.Forms.{forms_objects}
use Rattle.answers.specs.SolutionWinners.{winners_of_groups}
use Rattle.answers.specs.inside.Forms.{held_as}
use Rattle.auction_input.specs.Auction.{parsed_auction}
use Rattle.auction_input.specs.Input.{Input}
use Rattle.auction_input.specs.LastForms.{HoldsParts}
use Rattle.auction_input.specs.Settled.{held}
use Rattle.auction_input.specs.declared.auction.Auction.{Auction}
use Rattle.auction_input.specs.declared.last_forms.FormParts.{FormParts}
use Rattle.auction_input.specs.declared.refusal.Refusal.TheVariants as refusal
use Rattle.auction_input.specs.declared.request.Objects.TheVariants as objects
use Rattle.auction_input.specs.declared.request.Request.TheVariants as request
use Rattle.auction_input.proofs.StageFacts.{next, stop}
use Rattle.auction_input.proofs.StepFacts.{if-err-of}
use Rattle.auction_terms.specs.declared.bids.Choice.{Choice}
use Rattle.award_objects.specs.Objects.{objects_unshown}
use Rattle.bid_desk.specs.Sale.{sale_of}
use Rattle.byte_sinks.specs.Sinks.{GoesInPart, GoesWhole, written_of}
use Rattle.byte_sinks.specs.declared.json.Format.TheVariants as format
use Rattle.answers.proofs.AnswerFacts.{has-sold-to}
use Rattle.answers.proofs.CommandFacts.{cut-short}
use Rattle.answers.proofs.FormsFacts.{text-held}
use Rattle.answers.proofs.FormsFirstFacts.{no-auction-first, report-as-objects, unread-first, unsaid-first, with-forms}
use Rattle.answers.proofs.commands.objects.report_as_objects.Goals as goal

abbrev text_of : Auction → List (List Choice) → List ℕ
text_of auction won = objects_unshown auction.book.rules (sale_of auction.book) auction.groups won

-- the objects of what is won
says : (auction : Auction) (won : List (List Choice)) → winners_of_groups (held auction) ≡ Ok won → reported_objects (held auction) ≡ Ok (text_of auction won)
says auction won wins = next _ won _ _ wins refl

-- the objects of what is held, and of what is won
is-answer : (workers : ℕ) (input : Input) (auction : Auction) (won : List (List Choice)) (parts : FormParts)
    → parsed_auction (request.Report workers) input ≡ Ok (held auction) → winners_of_groups (held auction) ≡ Ok won
    → HoldsParts input parts → answer (request.Objects (objects.Report workers)) input ≡ Ok (held_as format.Json parts ++ text_of auction won)
is-answer workers input auction won parts parsed wins holds =
    with-forms _ _ _ forms_objects input (report-as-objects workers input) (held auction) parsed (text_of auction won)
    (says auction won wins) (held_as format.Json parts) (text-held format.Json input parts holds)

pub returns-in_err-auction-clause-refused : goal.returns-in_err-auction-clause-refused
returns-in_err-auction-clause-refused g c =
    let input = c.args.input.now in
    let before = g.S.Sink.state c.args.out.now in
    let r = c.in_err-auction.field-0.0 in
    if-err-of (IsUnwritten (request.Objects (objects.Report c.args.workers)) input before before) c.from_residual.result r c.from_residual.ensures.1
    (no-auction-first _ _ _ _ input (report-as-objects c.args.workers input) before r c.in_err-auction.ensures.refuses)

pub returns-in_err-check_counts-clause-refused : goal.returns-in_err-check_counts-clause-refused
returns-in_err-check_counts-clause-refused g c =
    let input = c.args.input.now in
    let before = g.S.Sink.state c.args.out.now in
    let r = c.in_err-check_counts.field-0.0 in
    if-err-of (IsUnwritten (request.Objects (objects.Report c.args.workers)) input before before) c.from_residual-in_err-check_counts.result r
    c.from_residual-in_err-check_counts.ensures.1
    (unsaid-first _ _ _ _ input (report-as-objects c.args.workers input) (held c.in_ok-auction.auction) c.in_ok-auction.ensures.parsed before r
    (stop _ _ r c.in_err-check_counts.ensures.refuses))

pub returns-in_err-compiler-clause-refused : goal.returns-in_err-compiler-clause-refused
returns-in_err-compiler-clause-refused g c =
    let input = c.args.input.now in
    let before = g.S.Sink.state c.args.out.now in
    if-err-of (IsUnwritten (request.Objects (objects.Report c.args.workers)) input before before) c.from_residual-in_err-compiler.result
    refusal.OutOfMemory c.from_residual-in_err-compiler.ensures.1
    (unsaid-first _ _ _ _ input (report-as-objects c.args.workers input) (held c.in_ok-auction.auction) c.in_ok-auction.ensures.parsed before
    refusal.OutOfMemory (inr refl))

pub returns-in_err-won-clause-refused : goal.returns-in_err-won-clause-refused
returns-in_err-won-clause-refused g c =
    let input = c.args.input.now in
    let before = g.S.Sink.state c.args.out.now in
    let r = c.in_err-won.field-0.0 in
    if-err-of (IsUnwritten (request.Objects (objects.Report c.args.workers)) input before before) c.from_residual-in_err-won.result r
    c.from_residual-in_err-won.ensures.1
    (unsaid-first _ _ _ _ input (report-as-objects c.args.workers input) (held c.in_ok-auction.auction) c.in_ok-auction.ensures.parsed before r
    (stop _ _ r c.in_err-won.ensures.refuses))

pub returns-in_err-parts-clause-refused : goal.returns-in_err-parts-clause-refused
returns-in_err-parts-clause-refused g c =
    let input = c.args.input.now in
    let before = g.S.Sink.state c.args.out.now in
    let r = c.in_err-parts.field-0.0 in
    if-err-of (IsUnwritten (request.Objects (objects.Report c.args.workers)) input before before) c.from_residual-in_err-parts.result r
    c.from_residual-in_err-parts.ensures.1
    (unread-first _ _ _ _ input (report-as-objects c.args.workers input) (held c.in_ok-auction.auction) c.in_ok-auction.ensures.parsed
    (text_of c.in_ok-auction.auction c.in_ok-won.won.items) (says c.in_ok-auction.auction c.in_ok-won.won.items c.in_ok-won.ensures.won) before r
    c.in_err-parts.ensures.refuses)

pub returns-in_err-write_unshown-clause-refused : goal.returns-in_err-write_unshown-clause-refused
returns-in_err-write_unshown-clause-refused g c =
    let before = g.S.Sink.state c.args.out.now in
    let after = g.S.Sink.state c.write_unshown.new.out in
    let f = c.in_err-write_unshown.field-0.0 in
    if-err-of (IsUnwritten (request.Objects (objects.Report c.args.workers)) c.args.input.now before after) c.from_residual-in_err-write_unshown.result
    (refusal.Write f) c.from_residual-in_err-write_unshown.ensures.1
    (inl (cut-short _ (held_as format.Json c.in_ok-parts.parts ++ text_of c.in_ok-auction.auction c.in_ok-won.won.items) before after f
    (is-answer c.args.workers c.args.input.now c.in_ok-auction.auction c.in_ok-won.won.items c.in_ok-parts.parts c.in_ok-auction.ensures.parsed
    c.in_ok-won.ensures.won c.in_ok-parts.ensures.parsed) (subst (λ (won : List (List Choice)). GoesInPart before after
    (held_as format.Json c.in_ok-parts.parts ++ text_of c.in_ok-auction.auction won) (written_of f)) c.as_slice.ensures.value c.in_err-write_unshown.ensures)))

pub returns-clause-written : goal.returns-clause-written
returns-clause-written g c = (
  held_as format.Json c.in_ok-parts.parts ++ text_of c.in_ok-auction.auction c.in_ok-won.won.items,
  is-answer c.args.workers c.args.input.now c.in_ok-auction.auction c.in_ok-won.won.items c.in_ok-parts.parts c.in_ok-auction.ensures.parsed
      c.in_ok-won.ensures.won c.in_ok-parts.ensures.parsed,
  subst (λ (won : List (List Choice)). GoesWhole (g.S.Sink.state c.args.out.now) (g.S.Sink.state c.write_unshown.new.out)
      (held_as format.Json c.in_ok-parts.parts ++ text_of c.in_ok-auction.auction won)) c.as_slice.ensures.value c.in_ok-write_unshown.ensures,
)

pub returns-clause-sold : goal.returns-clause-sold
returns-clause-sold g c =
    has-sold-to (request.Report c.args.workers) c.args.input.now (held c.in_ok-auction.auction) c.in_ok-auction.ensures.sold
