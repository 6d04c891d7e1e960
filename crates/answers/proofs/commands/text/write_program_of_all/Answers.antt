use Rattle.std.proofs.Common.{◌≡◌, ◌∙◌, ◌-◌, [], List, ℕ, ap, inr, refl, subst, slice_index_or}
use Rattle.auction_terms.specs.Groups.{has}
use Rattle.auction_terms.specs.Terms.{lots_in}
use Rattle.bid_desk.specs.Closing.{book_of}
use Rattle.group_compiler.specs.Compiled.{program_without}
use Rattle.mps_text.proofs.FaithfulTextFacts.{presolved_text_is_faithful}
use Rattle.byte_sinks.specs.Sinks.{GoesInPart, GoesWhole, written_of}
use Rattle.mps_text.specs.Text.{text}
use Rattle.answers.specs.Answer.{output_of}
use Rattle.auction_input.specs.declared.request.Request.TheVariants as request
use Rattle.auction_input.specs.Settled.{held}
use Rattle.answers.specs.Exact.{Ends, by_refusal}
use Rattle.auction_input.specs.declared.refusal.Refusal.TheVariants as refusal
use Rattle.answers.proofs.CommandFacts.{cut-short}
use Rattle.auction_input.proofs.StepFacts.{if-err-of}
use Rattle.answers.proofs.commands.text.write_program_of_all.Goals as goal

pub returns-clause-written : goal.returns-clause-written
returns-clause-written g c =
    let book = c.args.auction.now.book in
    let nobody : c.group.result.now ≡ [] = c.group.ensures ∙ ap (λ (groups : List (List ℕ)). slice_index_or groups (1 - 1) []) c.in_ok-groups.ensures in (
      text (program_without book []),
      refl,
      subst (λ (group : List ℕ). GoesWhole (g.S.Sink.state c.args.out.now)
          (g.S.Sink.state c.write_program_without.new.out) (text (program_without book group))) nobody
          c.in_ok-write_program_without.ensures,
    )

pub returns-clause-faithful : goal.returns-clause-faithful
returns-clause-faithful g c =
    let book = c.args.auction.now.book in
    presolved_text_is_faithful (lots_in book.rules) (book_of book) (has []) c.within_limits.ensures.lots c.within_limits.ensures.book

pub returns-in_err-groups-clause-refused : goal.returns-in_err-groups-clause-refused
returns-in_err-groups-clause-refused g c =
    let before = g.S.Sink.state c.args.out.now in
    if-err-of (Ends (output_of request.Text (held c.args.auction.now)) before before) c.from_residual.result refusal.OutOfMemory
    c.from_residual.ensures.1 (by_refusal (inr refl) refl)

pub returns-in_err-pages-clause-refused : goal.returns-in_err-pages-clause-refused
returns-in_err-pages-clause-refused g c =
    let before = g.S.Sink.state c.args.out.now in
    if-err-of (Ends (output_of request.Text (held c.args.auction.now)) before before) c.from_residual-in_err-pages.result
    refusal.OutOfMemory c.from_residual-in_err-pages.ensures.1 (by_refusal (inr refl) refl)

pub returns-in_err-write_program_without-clause-refused : goal.returns-in_err-write_program_without-clause-refused
returns-in_err-write_program_without-clause-refused g c =
    let book = c.args.auction.now.book in
    let before = g.S.Sink.state c.args.out.now in
    let after = g.S.Sink.state c.write_program_without.new.out in
    let f = c.in_err-write_program_without.field-0.0 in
    let nobody : c.group.result.now ≡ [] = c.group.ensures ∙ ap (λ (groups : List (List ℕ)). slice_index_or groups (1 - 1) []) c.in_ok-groups.ensures in
    let sent = subst (λ (group : List ℕ). GoesInPart before after (text (program_without book group)) (written_of f)) nobody
    c.in_err-write_program_without.ensures in
    if-err-of (Ends (output_of request.Text (held c.args.auction.now)) before after) c.from_residual-in_err-write_program_without.result
    (refusal.Write f) c.from_residual-in_err-write_program_without.ensures.1
    (cut-short _ (text (program_without book [])) before after f refl sent)
