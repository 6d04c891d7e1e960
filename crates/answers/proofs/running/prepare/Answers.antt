use Rattle.std.proofs.Common.{◌<◌, ◌∙◌, [], List, None, length, subst, sym}
use Rattle.std.specs.Option.{option_map}
use Rattle.std.specs.Prelude.{map}
use Rattle.std.proofs.lemmas.Bool.{eqb-false}
use Rattle.std.proofs.lemmas.List.{append-nil}
use Rattle.auction_input.specs.FileCalls.{AreAsked, AreBegun, FileCall, looks}
use Rattle.auction_input.specs.FileTexts.{named_files}
use Rattle.auction_input.proofs.StepFacts.{on-err-given}
use Rattle.answers.specs.Asked.{text_of}
use Rattle.answers.specs.RunCalls.{looks_named}
use Rattle.answers.proofs.RunCallFacts.{begun-as, looks-read, looks-with, positive}
use Rattle.answers.proofs.running.prepare.Goals as goal

pub returns-in_default-clause-looks_begun : goal.returns-in_default-clause-looks_begun
returns-in_default-clause-looks_begun g c =
    let names = c.as_slice-names.result.now in
    let command = c.args.command.now in
    let some : 0 < length names = positive (length names) (eqb-false (length names) 0 (sym c.is_empty.ensures ∙ c.if-is_empty.false)) in
    begun-as (looks (named_files names) None) (looks_named (map text_of command.files.items) (option_map text_of command.output))
    (λ with_rights. looks-read names command.files.items command.output with_rights c.as_slice-names.ensures.value c.in_default.is some)
    (g.D.Files.calls c.args.files.now) (g.D.Files.calls c.look_at_files.new.files) c.look_at_files.result c.look_at_files.ensures.begun

pub returns-in_err-look_at_files-clause-looks_begun : goal.returns-in_err-look_at_files-clause-looks_begun
returns-in_err-look_at_files-clause-looks_begun g c =
    let names = c.as_slice-names.result.now in
    let command = c.args.command.now in
    let before = g.D.Files.calls c.args.files.now in
    let after = g.D.Files.calls c.look_at_files-2.new.files in
    let (with_rights, begun) = c.in_err-look_at_files.ensures.begun in
    on-err-given c.from_residual.result (
      with_rights,
      subst
          (λ (calls : List FileCall). AreBegun calls before after)
          (looks-with names command.files.items command.output c.in-Some.output c.as_str.result.now with_rights
          c.as_slice-names.ensures.value c.in-Some.is c.as_str.ensures.value)
          begun,
    )

pub returns-in-Ok-clause-called : goal.returns-in-Ok-clause-called
returns-in-Ok-clause-called g c =
    let names = c.as_slice-names.result.now in
    let command = c.args.command.now in
    let before = g.D.Files.calls c.args.files.now in
    let after = g.D.Files.calls c.look_at_files-2.new.files in
    let (with_rights, asked) = c.in_ok-look_at_files.ensures.called in (
      with_rights,
      subst
          (λ (calls : List FileCall). AreAsked calls before after)
          (looks-with names command.files.items command.output c.in-Some.output c.as_str.result.now with_rights
          c.as_slice-names.ensures.value c.in-Some.is c.as_str.ensures.value)
          asked,
    )

pub returns-in-Err-clause-looks_begun : goal.returns-in-Err-clause-looks_begun
returns-in-Err-clause-looks_begun g c =
    let names = c.as_slice-names.result.now in
    let command = c.args.command.now in
    let before = g.D.Files.calls c.args.files.now in
    let after = g.D.Files.calls c.look_at_files-2.new.files in
    let (with_rights, asked) = c.in_ok-look_at_files.ensures.called in
    let due = looks_named (map text_of command.files.items) (option_map text_of command.output) with_rights in (
      with_rights,
      (
        due,
        [],
        sym (append-nil due),
        subst
            (λ (calls : List FileCall). AreAsked calls before after)
            (looks-with names command.files.items command.output c.in-Some.output c.as_str.result.now with_rights
            c.as_slice-names.ensures.value c.in-Some.is c.as_str.ensures.value)
            asked,
      ),
    )
