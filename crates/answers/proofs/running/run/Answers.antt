use Rattle.std.proofs.Common.{◌∙◌, ap, arith, codes, inl, refl}
use Rattle.clap.specs.Words.{kind_of}
use Rattle.auction_input.specs.Line.{line}
use Rattle.auction_input.specs.declared.refusal.Refusal.TheVariants as refusal
use Rattle.answers.specs.Asked.{asked_of}
use Rattle.answers.specs.Runs.{by_memory}
use Rattle.answers.proofs.RunCallFacts.{called-faulty}
use Rattle.answers.proofs.RunFacts.{run-as, run-faulty}
use Rattle.answers.proofs.running.run.Goals as goal

pub returns-in-Err-clause-outside : goal.returns-in-Err-clause-outside
returns-in-Err-clause-outside g c = record {
  done = λ zero. absurd (omega (arith, zero, c.without_words.ensures.some));
  quiet = λ zero. absurd (omega (arith, zero, c.without_words.ensures.some));
  succeeded = λ other. (refl, refl);
  refused = λ one. inl (line refusal.OutOfMemory, by_memory refl refl, c.without_words.ensures.refused one);
  unasked = λ two. (ap asked_of c.in-Err.is, refl, refl);
  reported = λ two. (codes "wdp: a word is no text\n", omega arith, c.without_words.ensures.reported two);
}

pub returns-in-Ok-command_of-clause-outside : goal.returns-in-Ok-command_of-clause-outside
returns-in-Ok-command_of-clause-outside g c = run-as _ _ _ _ _ _ (ap asked_of c.in-Ok.is ∙ c.in-Ok-command_of.ensures.asked) c.answer_command.ensures.outside

pub returns-in-Err-command_of-clause-outside : goal.returns-in-Err-command_of-clause-outside
returns-in-Err-command_of-clause-outside g c =
    let by = c.print_help_or_fault.ensures in
    run-faulty _ _ _ (kind_of c.in-Err-command_of.error) (ap asked_of c.in-Ok.is) c.in-Err-command_of.ensures.shown _ _ _ _ _ _ _ _ _ by.status
    by.shown by.quiet by.refused by.unasked by.reported

pub returns-in-Ok-command_of-clause-called : goal.returns-in-Ok-command_of-clause-called
returns-in-Ok-command_of-clause-called g c = rw (ap asked_of c.in-Ok.is ∙ c.in-Ok-command_of.ensures.asked) c.answer_command.ensures.called

pub returns-in-Err-clause-called : goal.returns-in-Err-clause-called
returns-in-Err-clause-called g c = rw (ap asked_of c.in-Err.is) refl

pub returns-in-Err-command_of-clause-called : goal.returns-in-Err-command_of-clause-called
returns-in-Err-command_of-clause-called g c =
    rw (ap asked_of c.in-Ok.is)
    (called-faulty _ (kind_of c.in-Err-command_of.error) c.in-Err-command_of.ensures.shown c.print_help_or_fault.result _ _
    c.print_help_or_fault.ensures.shown (g.D.Files.calls c.args.files.now))
