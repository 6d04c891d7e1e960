use Rattle.std.proofs.Common.{◌∙◌, sym, ap}
use Rattle.std.specs.Prelude.{decimal}
use Rattle.std.proofs.lemmas.Bool.{eqb-true}
use Rattle.program_rows.proofs.NumeralFacts.{spelled, below_four, is_some, not_empty, not_long, no_zero_first, only_digits}
use Rattle.program_rows.proofs.spelling.number_spelled.Goals as goal

pub returns-then-is_empty : goal.returns-then-is_empty
returns-then-is_empty c = λ n some low e. not_empty n c.args.text.now low (eqb-true _ 0 (sym c.is_empty.ensures ∙ c.if-is_empty.true)) e

pub returns-then-text-gt4 : goal.returns-then-text-gt4
returns-then-text-gt4 c = λ n some low e. not_long n c.args.text.now low c.if-text-gt4.true e

pub returns-then-text-eq48 : goal.returns-then-text-eq48
returns-then-text-eq48 c = λ n some low e. no_zero_first n c.args.text.now some low c.if-text-eq48.true e

pub returns-then-not-are_all_digits : goal.returns-then-not-are_all_digits
returns-then-not-are_all_digits c = λ n some low e. only_digits n c.args.text.now low (sym c.are_all_digits.ensures ∙ c.if-not-are_all_digits.true) e

pub returns : goal.returns
returns c =
    let value = c.digits_after.ensures.value in
    let low = below_four c.digits_after.result _ c.digits_after.ensures.low c.if-text-gt4.false in
    ap decimal value
    ∙ spelled c.args.text.now (is_some _ (sym c.is_empty.ensures ∙ c.if-is_empty.false)) c.if-text-gt4.false c.if-text-eq48.false
    (sym c.are_all_digits.ensures ∙ c.if-not-are_all_digits.false) (rw value at low)
