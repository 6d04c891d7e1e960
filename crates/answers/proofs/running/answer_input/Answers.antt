use Rattle.std.proofs.Common.{ap, inl}
use Rattle.input_faults.specs.PlacedText.{placed_line}
use Rattle.answers.proofs.running.answer_input.Goals as goal

pub returns-in-Err-clause-refused : goal.returns-in-Err-clause-refused
returns-in-Err-clause-refused g c = λ one.
    let r = c.in-Err.refusal in
    inl (
      placed_line c.texts.result.now r,
      (
        r,
        ap (λ texts. placed_line texts
            r) c.texts.ensures,
        inl (c.answer.ensures.asks, c.in-Err.ensures.refused),
      ),
      c.print_refusal.ensures,
    )

pub returns-in-Explain-clause-refused : goal.returns-in-Explain-clause-refused
returns-in-Explain-clause-refused g c = rw c.in-Explain.is c.explain_request.ensures.refused
