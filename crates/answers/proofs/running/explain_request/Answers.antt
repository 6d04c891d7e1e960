use Rattle.std.proofs.Common.{ap, inl, inr, refl}
use Rattle.input_faults.specs.PlacedText.{placed_line}
use Rattle.answers.proofs.running.explain_request.Goals as goal

pub returns-in-Err-clause-refused : goal.returns-in-Err-clause-refused
returns-in-Err-clause-refused g c = λ one.
    let r = c.in-Err.refusal in
    let is = ap (λ texts. placed_line texts r) c.texts.ensures in
    elim (c.in-Err.ensures.refused) [
      | inl cut ↦ inl (placed_line c.texts.result.now r, (r, is, inr (c.args.options, refl, cut)), c.print_refusal.ensures)
      | inr unwritten ↦ inl (placed_line c.texts.result.now r, (r, is, inl unwritten), c.print_refusal.ensures)
    ]
