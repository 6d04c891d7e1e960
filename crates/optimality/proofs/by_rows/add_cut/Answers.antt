use Rattle.std.proofs.Common.{◌≡◌, ◌∙◌, ◌≤◌, ◌+◌, ◌*◌, ◌^◌, ap, ap₂, subst, sym, pos, rules, ℕ, ℤ, neg_ℤ, ◌+ℤ◌}
use Rattle.std.specs.Prelude.{if◌then◌else◌, unsigned_abs}
use Rattle.optimality.specs.inside.Sizes.{form_size}
use Rattle.optimality.specs.Holding.{cut_of}
use Rattle.std.proofs.lemmas.Int.{to_z-of_z}
use Rattle.std.proofs.lemmas.Result.{on_ok_weaker}
use mir.Syntax.{w128}
use mir.Val.{SFits}
use Rattle.optimality.specs.Certificates.{Form}
use Rattle.optimality.specs.Adding.{number_at}
use Rattle.optimality.specs.inside.Adding.{form_given}
use Rattle.optimality.proofs.StepFacts.{side-given}
use Rattle.optimality.proofs.SizeFacts.{side-size, signed-size}
use Rattle.optimality.proofs.StopFacts.{too-large-weaker}
use Rattle.optimality.proofs.by_rows.add_cut.Goals as goal

pub returns-clause-value : goal.returns-clause-value
returns-clause-value c =
    let fits : SFits w128 c.signed-factor.result = search rules in
    let s = c.args.split.now in
    let high = if s.is_high then neg_ℤ (pos c.args.multiplier) else pos c.args.multiplier in
    let factor : c.signed-factor.result ≡ high = c.signed-factor.ensures in
    let added = simp to_z-of_z at c.add_wide_form.ensures.value in
    on_ok_weaker c.add_wide_form.result (λ more q. more q
    ∙ ap (λ (k : ℤ). number_at c.args.sums.now.numbers.items q +ℤ form_given k c.as_slice.result.now q) factor
    ∙ ap (λ (form : Form). number_at c.args.sums.now.numbers.items q +ℤ form_given high form q) c.as_slice.ensures.value
    ∙ ap (λ (n : ℤ). number_at c.args.sums.now.numbers.items q +ℤ n) (side-given s.is_high (pos c.args.multiplier) s.form.items s.most q)) added

pub returns-clause-too_large : goal.returns-clause-too_large
returns-clause-too_large c =
    let fits : SFits w128 c.signed-factor.result = search rules in
    let s = c.args.split.now in
    let factor : unsigned_abs c.signed-factor.result ≡ c.args.multiplier = ap unsigned_abs c.signed-factor.ensures ∙ signed-size s.is_high c.args.multiplier in
    let form : form_size c.as_slice.result.now ≡ form_size (cut_of s).form =
    ap form_size c.as_slice.ensures.value ∙ sym (side-size s.is_high s.form.items s.most) in
    let product : unsigned_abs c.signed-factor.result * form_size c.as_slice.result.now ≡ c.args.multiplier * form_size (cut_of s).form =
    ap₂ (λ (a b : ℕ). a * b) factor form in
    too-large-weaker c.add_wide_form.result (simp to_z-of_z at c.add_wide_form.ensures.too_large)
    (λ reached. (
      reached.0,
      subst (λ (n : ℕ). 2 ^ 126 ≤ unsigned_abs (number_at c.args.sums.now.numbers.items reached.0) +
          n) product reached.1,
    ))
