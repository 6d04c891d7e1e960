use Rattle.std.proofs.Common.{[], arith}
use Rattle.auction_terms.specs.declared.limits.TheConstants.{MOST_FAULTS}
use Rattle.bid_forms.proofs.FormFacts.{enough-whole}
use Rattle.bid_forms.proofs.form_text.judge_form.Goals as goal

pub returns-then-bytes-gt-TEXT_LIMIT-clause-too_large : goal.returns-then-bytes-gt-TEXT_LIMIT-clause-too_large
returns-then-bytes-gt-TEXT_LIMIT-clause-too_large c large =
    (λ none. cc none, (rw c.of_whole.ensures at c.in_ok-add.ensures) MOST_FAULTS [] c.new-faults.ensures)

pub returns-in-None-clause-answer : goal.returns-in-None-clause-answer
returns-in-None-clause-answer c small = (
  rw (c.in-None.is, c.new-reader.ensures.all) at c.in_ok-form.ensures.none,
  enough-whole MOST_FAULTS c.new-faults.result c.judge_records.new.faults _ (omega arith) c.new-faults.ensures
      (rw c.new-reader.ensures.all at c.in_ok-form.ensures.found),
)
