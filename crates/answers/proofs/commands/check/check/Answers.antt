use Rattle.std.proofs.Common.{◌≡◌, ℕ, Ok, Result, ap, inl, refl}
use Rattle.program_rows.specs.Program.{Table}
use Rattle.program_rows.specs.declared.mps_fault_kind.MpsFaultKind.{MpsFaultKind}
use Rattle.auction_input.specs.Input.{text_bytes}
use Rattle.auction_input.specs.ParsedParts.{only_text}
use Rattle.answers.specs.Answer.{answer}
use Rattle.answers.specs.Exact.{IsUnwritten, by_refusal}
use Rattle.mps_reader.specs.declared.limits.TheConstants.{PROGRAM_LIMIT}
use Rattle.program_rows.specs.MpsMeaning.{meaning}
use Rattle.program_rows.specs.declared.mps_fault_kind.MpsFaultKind.TheVariants as kind
use Rattle.answers.specs.Sizes.{sizes_text}
use Rattle.auction_terms.specs.Stages.{and_then, refused_as}
use Rattle.auction_input.specs.declared.refusal.Refusal.TheVariants as refusal
use Rattle.auction_input.specs.declared.request.Request.TheVariants as request
use Rattle.answers.proofs.CommandFacts.{cut-short}
use Rattle.answers.proofs.FaultFacts.{program-refuses, program_refused}
use Rattle.auction_input.proofs.InputTextFacts.{sized}
use Rattle.answers.proofs.ProgramTextFacts.{program-refused, program-parsed}
use Rattle.auction_input.proofs.StepFacts.{if-err-of}
use Rattle.auction_input.proofs.StageFacts.{stop}
use Rattle.answers.proofs.commands.check.check.Goals as goal

pub returns-in_err-program-clause-refused : goal.returns-in_err-program-clause-refused
returns-in_err-program-clause-refused g c =
    let input = c.args.input.now in
    let text = only_text (text_bytes input) in
    let before = g.S.Sink.state c.args.out.now in
    let f = c.in_err-program.field-0.0 in
    let refused = program-refuses f (sized PROGRAM_LIMIT (0, kind.TooLarge) meaning text)
    (program-refused text f (rw c.first_text.ensures at c.in_err-program.ensures.too_large)
    (rw c.first_text.ensures at c.in_err-program.ensures.meaning)) in
    if-err-of (IsUnwritten request.Check input before before) c.from_residual.result (refusal.Program f) c.from_residual.ensures.1
    (inl (by_refusal (stop _ _ (refusal.Program f) refused) refl))

pub returns-in_err-write_sizes-clause-refused : goal.returns-in_err-write_sizes-clause-refused
returns-in_err-write_sizes-clause-refused g c =
    let input = c.args.input.now in
    let text = only_text (text_bytes input) in
    let p = c.in_ok-program.program in
    let before = g.S.Sink.state c.args.out.now in
    let after = g.S.Sink.state c.write_sizes.new.out in
    let f = c.in_err-write_sizes.field-0.0 in
    let parsed = program-parsed text p (rw c.first_text.ensures at c.in_ok-program.ensures.too_large)
    (rw c.first_text.ensures at c.in_ok-program.ensures.meaning) in
    let whole : answer request.Check input ≡ Ok (sizes_text p) =
    ap (λ (r : Result Table (ℕ × MpsFaultKind)). and_then (refused_as program_refused r) (λ program. Ok (sizes_text program))) parsed in
    if-err-of (IsUnwritten request.Check input before after) c.from_residual-in_err-write_sizes.result (refusal.Write f)
    c.from_residual-in_err-write_sizes.ensures.1
    (inl (cut-short _ (sizes_text p) before after f whole c.in_err-write_sizes.ensures))

pub returns-clause-written : goal.returns-clause-written
returns-clause-written g c =
    let p = c.in_ok-program.program in
    let parsed = program-parsed (only_text (text_bytes c.args.input.now)) p (rw c.first_text.ensures at c.in_ok-program.ensures.too_large)
    (rw c.first_text.ensures at c.in_ok-program.ensures.meaning) in (
      sizes_text p,
      ap (λ (r : Result Table (ℕ × MpsFaultKind)). and_then (refused_as program_refused r)
          (λ program. Ok (sizes_text program))) parsed,
      c.in_ok-write_sizes.ensures,
    )
