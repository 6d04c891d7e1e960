use Rattle.std.proofs.Common.{refl}
use Rattle.answers.specs.Asked.{command_line_of}
use Rattle.answers.specs.FileLines.{unread_line}
use Rattle.answers.specs.Runs.{by_input}
use Rattle.answers.proofs.RunCallFacts.{called-looking, called-reading, called-whole}
use Rattle.answers.proofs.RunFacts.{command-refused, run-read, unprepared-so}
use Rattle.answers.proofs.running.answer_command.Goals as goal

pub returns-in-Err-clause-outside : goal.returns-in-Err-clause-outside
returns-in-Err-clause-outside g c =
    let line = command_line_of c.args.command.now in
    command-refused _ line _ _ _ (unprepared-so _ line _ _ c.in-Err.refusal c.in-Err.ensures.refused refl c.in-Err.ensures.kept)
    c.print_file_refusal.ensures

pub returns-in-Ok-clause-outside : goal.returns-in-Ok-clause-outside
returns-in-Ok-clause-outside g c =
    let line = command_line_of c.args.command.now in
    let by = rw c.in_default.ensures.begun at c.answer_input.ensures in
    run-read _ line _ _ c.in-Ok.given c.in_default.ensures.looked (rw c.prepare.ensures.shelf_kept at c.in-Ok.ensures.read) c.answer_input.result by.status c.in-Ok.ensures.unfailed
    by.written by.quiet by.refused

pub returns-in-Err-read_input-clause-outside : goal.returns-in-Err-read_input-clause-outside
returns-in-Err-read_input-clause-outside g c =
    let line = command_line_of c.args.command.now in
    let unread = c.in-Err-read_input.unread in
    command-refused _ line _ _ (unread_line line unread)
    (by_input unread c.in_default.ensures.looked (rw c.prepare.ensures.shelf_kept at c.in-Err-read_input.ensures.unread) c.in_default.ensures.begun) c.print_unread.ensures

pub returns-in-Err-clause-called : goal.returns-in-Err-clause-called
returns-in-Err-clause-called g c = called-looking (command_line_of c.args.command.now) _ _ c.in-Err.ensures.looks_begun

pub returns-in-Ok-clause-called : goal.returns-in-Ok-clause-called
returns-in-Ok-clause-called g c =
    called-whole (command_line_of c.args.command.now) c.answer_input.result _ _ _ c.in_default.ensures.called c.in-Ok.ensures.called

pub returns-in-Err-read_input-clause-called : goal.returns-in-Err-read_input-clause-called
returns-in-Err-read_input-clause-called g c =
    called-reading (command_line_of c.args.command.now) _ _ _ c.in_default.ensures.called c.in-Err-read_input.ensures.begun
