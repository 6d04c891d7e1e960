use Rattle.std.proofs.Common.{◌≡◌, ◌∙◌, ap, pos, rules, ℤ, neg_ℤ, ◌+ℤ◌}
use Rattle.std.specs.Prelude.{if◌then◌else◌}
use Rattle.std.proofs.lemmas.Int.{to_z-of_z}
use Rattle.std.proofs.lemmas.Option.{IfSome_then}
use mir.Syntax.{w64, w128}
use mir.Val.{SFits}
use Rattle.optimality.specs.Certificates.{Form}
use Rattle.optimality.specs.Adding.{number_at}
use Rattle.optimality.specs.inside.Adding.{form_given}
use Rattle.optimality.proofs.StepFacts.{side-given}
use Rattle.optimality.proofs.narrow_sums.add_cut.Goals as goal

pub returns : goal.returns
returns c =
    let fits : SFits w64 c.in_ok-factor.factor = search rules in
    let fits_signed : SFits w128 c.signed.result = search rules in
    let s = c.args.split.now in
    let before = c.args.sums.now in
    let high = if s.is_high then neg_ℤ (pos c.args.multiplier) else pos c.args.multiplier in
    let narrow = simp to_z-of_z at c.in_ok-factor.ensures in
    let factor : c.in_ok-factor.factor ≡ high = narrow ∙ c.signed.ensures in
    let added = simp to_z-of_z at c.add_wide_form.ensures in
    IfSome_then c.add_wide_form.result added (λ _ more q. more q
    ∙ ap (λ (k : ℤ). number_at before q +ℤ form_given k c.as_slice.result.now q) factor
    ∙ ap (λ (form : Form). number_at before q +ℤ form_given high form q) c.as_slice.ensures.value
    ∙ ap (λ (n : ℤ). number_at before q +ℤ n) (side-given s.is_high (pos c.args.multiplier) s.form.items s.most q))
