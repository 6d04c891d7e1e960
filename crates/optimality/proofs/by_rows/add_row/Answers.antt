use Rattle.std.proofs.Common.{◌≡◌, ◌∙◌, ◌*◌, ◌++◌, [], ap, ap₂, subst, sym}
use Rattle.std.specs.Prelude.{unsigned_abs}
use Rattle.std.proofs.lemmas.Int.{to_z-of_z}
use Rattle.std.proofs.lemmas.List.{get_or-map}
use Rattle.std.proofs.lemmas.Result.{on_ok_weaker}
use mir.Syntax.{w128}
use mir.Val.{SFits}
use Rattle.optimality.specs.Certificates.{Form}
use Rattle.optimality.specs.Adding.{AreGivenMore, number_at, form_at}
use Rattle.optimality.specs.inside.Adding.{form_given}
use Rattle.optimality.specs.RowForms.{form_held, forms_held}
use Rattle.optimality.specs.inside.Sizes.{form_size}
use Rattle.optimality.specs.inside.Stopping.{ReachesLimit}
use Rattle.optimality.proofs.PlaceFacts.{forms-given}
use Rattle.optimality.proofs.SizeFacts.{first-within, second-within, reach}
use Rattle.optimality.proofs.StopFacts.{too-large-passed, too-large-weaker}
use Rattle.optimality.proofs.by_rows.add_row.Goals as goal

pub returns-clause-value : goal.returns-clause-value
returns-clause-value c =
    let fits : SFits w128 c.args.multiplier = c.ranges.multiplier in
    let k = c.args.multiplier in
    let before = c.args.sums.now.numbers.items in
    let after = c.add_form.new.sums.numbers.items in
    let short = c.as_slice.result.now in
    let rest = c.as_slice-2.result.now in
    let form : short ++ rest ≡ form_at (forms_held c.args.forms.now) c.args.row =
    ap₂ (λ (a b : Form). a ++ b) c.as_slice.ensures.value c.as_slice-2.ensures.value ∙ ap form_held c.index-forms-row.is
    ∙ sym (get_or-map form_held c.args.forms.now c.args.row c.index-forms-row.result [] c.if-row-forms.false) in
    let first = simp to_z-of_z at c.in_ok-add_short_form.ensures.value in
    let second = simp to_z-of_z at c.add_form.ensures.value in
    on_ok_weaker c.add_form.result (λ more. subst (λ (f : Form). AreGivenMore (form_given k f) before after) form
    (forms-given k short rest before c.add_short_form.new.sums.numbers.items after first more)) second

pub returns-clause-too_large : goal.returns-clause-too_large
returns-clause-too_large c =
    let fits : SFits w128 c.args.multiplier = c.ranges.multiplier in
    let k = c.args.multiplier in
    let before = c.args.sums.now.numbers.items in
    let short = c.as_slice.result.now in
    let rest = c.as_slice-2.result.now in
    let form : short ++ rest ≡ form_at (forms_held c.args.forms.now) c.args.row =
    ap₂ (λ (a b : Form). a ++ b) c.as_slice.ensures.value c.as_slice-2.ensures.value ∙ ap form_held c.index-forms-row.is
    ∙ sym (get_or-map form_held c.args.forms.now c.args.row c.index-forms-row.result [] c.if-row-forms.false) in
    let first = simp to_z-of_z at c.in_ok-add_short_form.ensures.value in
    too-large-weaker c.add_form.result (simp to_z-of_z at c.add_form.ensures.too_large)
    (λ reached.
    let q = reached.0 in
    subst (λ (f : Form). ReachesLimit before (unsigned_abs k * form_size f)) form
    (q, reach (second-within k short rest q (number_at before q) (number_at c.add_short_form.new.sums.numbers.items q) (first q)) reached.1))

pub returns-in_err-add_short_form-clause-too_large : goal.returns-in_err-add_short_form-clause-too_large
returns-in_err-add_short_form-clause-too_large c =
    let fits : SFits w128 c.args.multiplier = c.ranges.multiplier in
    let k = c.args.multiplier in
    let before = c.args.sums.now.numbers.items in
    let short = c.as_slice.result.now in
    let rest = c.index-forms-row.result.rest.items in
    let form : short ++ rest ≡ form_at (forms_held c.args.forms.now) c.args.row =
    ap (λ (a : Form). a ++ rest) c.as_slice.ensures.value ∙ ap form_held c.index-forms-row.is
    ∙ sym (get_or-map form_held c.args.forms.now c.args.row c.index-forms-row.result [] c.if-row-forms.false) in
    too-large-passed (Unit {0}) c.from_residual.result c.in_err-add_short_form.field-0.0 c.from_residual.ensures.1 c.in_err-add_short_form.ensures.too_large
    (λ reached.
    let q = reached.0 in
    subst (λ (f : Form). ReachesLimit before (unsigned_abs k * form_size f)) form
    (q, reach (first-within k short rest (number_at before q)) (simp to_z-of_z at reached.1)))
