use Rattle.std.proofs.Common.{◌*◌, get_or, pos, rules, ℕ, ℤ}
use Rattle.std.specs.Prelude.{◌*ℤ◌, unsigned_abs}
use Rattle.optimality.specs.Certificates.{number_in}
use Rattle.optimality.specs.inside.Sizes.{form_size}
use Rattle.optimality.specs.Adding.{form_at, number_at}
use Rattle.std.proofs.lemmas.Int.{to_z-of_z}
use mir.Syntax.{w128}
use mir.Val.{SFits}
use Rattle.optimality.specs.RowForms.{forms_held}
use Rattle.optimality.proofs.StepFacts.{rows-step}
use Rattle.optimality.proofs.SizeFacts.{row-within, step-within, reach}
use Rattle.optimality.proofs.StopFacts.{too-large-passed}
use Rattle.optimality.proofs.by_rows.add_rows.Goals as goal

pub loop-row-preserved : goal.loop-row-preserved
loop-row-preserved c =
    let fits_number : SFits w128 (get_or c.args.rows.now c.loop-row.row-index (0, pos 0)).1 = search rules in
    let added = simp to_z-of_z at c.in_ok-add_row.ensures.value in
    rows-step c.args.rows.now (forms_held c.args.forms.now) c.loop-row.row-index (0, pos 0) c.args.sums.now.numbers.items c.loop-row.sums.numbers.items
    c.add_row.new.sums.numbers.items c.loop-row-test.true added c.loop-row.invariant

pub returns-in_err-add_row-clause-too_large : goal.returns-in_err-add_row-clause-too_large
returns-in_err-add_row-clause-too_large c =
    let forms = forms_held c.args.forms.now in
    let fits_number : SFits w128 (get_or c.args.rows.now c.loop-row.row-index (0, pos 0)).1 = search rules in
    too-large-passed (Unit {0}) c.from_residual.result c.in_err-add_row.field-0.0 c.from_residual.ensures.1 c.in_err-add_row.ensures.too_large
    (λ reached. (
      reached.0,
      reach (step-within (λ (t : ℕ × ℤ). t.1 *ℤ number_in (form_at forms t.0) reached.0)
          (λ (t : ℕ × ℤ). unsigned_abs t.1 * form_size (form_at forms t.0)) (row-within forms reached.0) c.args.rows.now c.loop-row.row-index
          (0, pos 0) (number_at c.loop-row.sums.numbers.items reached.0) (number_at c.args.sums.now.numbers.items reached.0)
          c.loop-row-test.true (c.loop-row.invariant reached.0)) (simp to_z-of_z at reached.1),
    ))
