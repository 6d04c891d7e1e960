use Rattle.std.proofs.Common.{◌≡◌, ◌∙◌, [], ap, ap₂, rules, subst, sym, ℤ, ◌++◌}
use Rattle.std.proofs.lemmas.Int.{to_z-of_z}
use Rattle.std.proofs.lemmas.List.{get_or-map}
use Rattle.std.proofs.lemmas.Option.{IfSome_then}
use mir.Syntax.{w64, w128}
use mir.Val.{SFits}
use Rattle.optimality.specs.Certificates.{Form}
use Rattle.optimality.specs.Adding.{AreGivenMore, form_at}
use Rattle.optimality.specs.inside.Adding.{form_given}
use Rattle.optimality.specs.RowForms.{form_held, forms_held}
use Rattle.optimality.proofs.PlaceFacts.{forms-given}
use Rattle.optimality.proofs.narrow_sums.add_row.Goals as goal

pub returns : goal.returns
returns c =
    let fits : SFits w64 c.in_ok-factor.factor = search rules in
    let fits_multiplier : SFits w128 c.args.multiplier = c.ranges.multiplier in
    let before = c.args.sums.now in
    let short = c.as_slice.result.now in
    let rest = c.as_slice-2.result.now in
    let form : short ++ rest ≡ form_at (forms_held c.args.forms.now) c.args.row =
    ap₂ (λ (a b : Form). a ++ b) c.as_slice.ensures.value c.as_slice-2.ensures.value ∙ ap form_held c.index-forms-row.is
    ∙ sym (get_or-map form_held c.args.forms.now c.args.row c.index-forms-row.result [] c.if-row-forms.false) in
    let factor = simp to_z-of_z at c.in_ok-factor.ensures in
    let first = simp to_z-of_z at c.in_ok-add_short_form.ensures in
    let second = simp to_z-of_z at c.add_form.ensures in
    IfSome_then c.add_form.result second (λ _ more.
    subst (λ (k : ℤ). AreGivenMore (form_given k (form_at (forms_held c.args.forms.now) c.args.row)) before c.add_form.new.sums) factor
    (subst (λ (f : Form). AreGivenMore (form_given c.in_ok-factor.factor f) before c.add_form.new.sums) form
    (forms-given c.in_ok-factor.factor short rest before c.add_short_form.new.sums c.add_form.new.sums first more)))
