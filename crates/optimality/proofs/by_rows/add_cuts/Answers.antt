use Rattle.std.proofs.Common.{◌≤◌, ◌+◌, ◌*◌, ◌^◌, get_or, pos, rules, subst, ℕ}
use Rattle.std.specs.Prelude.{◌*ℤ◌, unsigned_abs}
use Rattle.optimality.specs.Certificates.{Cut, number_in}
use Rattle.optimality.specs.inside.Sizes.{form_size}
use Rattle.optimality.specs.declared.checker.OpenSplit.{OpenSplit}
use Rattle.optimality.specs.Adding.{AreGivenMore, number_at}
use Rattle.optimality.specs.inside.Adding.{form_given}
use Rattle.optimality.specs.Holding.{cut_of}
use Rattle.optimality.proofs.StepFacts.{cuts-step}
use Rattle.optimality.proofs.SizeFacts.{cut-within, cuts-step-within, reach}
use Rattle.optimality.proofs.StopFacts.{too-large-passed}
use Rattle.optimality.proofs.by_rows.add_cuts.Goals as goal

pub loop-i-preserved : goal.loop-i-preserved
loop-i-preserved c =
    let split = c.index-splits-i.result in
    cuts-step c.args.multipliers.now c.args.splits.now c.loop-i.i 0 split c.args.sums.now.numbers.items c.loop-i.sums.numbers.items
    c.add_cut.new.sums.numbers.items (search rules) (search rules)
    (subst (λ (s : OpenSplit). AreGivenMore (form_given (pos (get_or c.args.multipliers.now c.loop-i.i 0)) (cut_of s).form)
    c.loop-i.sums.numbers.items c.add_cut.new.sums.numbers.items) c.index-splits-i.is c.in_ok-add_cut.ensures.value) c.loop-i.invariant

pub returns-in_err-add_cut-clause-too_large : goal.returns-in_err-add_cut-clause-too_large
returns-in_err-add_cut-clause-too_large c =
    let split = c.index-splits-i.result in
    let ys = c.args.multipliers.now in
    let y = get_or ys c.loop-i.i 0 in
    too-large-passed (Unit {0}) c.from_residual.result c.in_err-add_cut.field-0.0 c.from_residual.ensures.1 c.in_err-add_cut.ensures.too_large
    (λ reached. (
      reached.0,
      reach (cuts-step-within (λ (e : ℕ × Cut). pos e.0 *ℤ number_in e.1.form reached.0) (λ (e : ℕ × Cut). e.0 * form_size e.1.form)
          (cut-within reached.0) ys c.args.splits.now c.loop-i.i 0 split (number_at c.loop-i.sums.numbers.items reached.0)
          (number_at c.args.sums.now.numbers.items reached.0) (search rules) (search rules) (c.loop-i.invariant reached.0))
          (subst (λ (s : OpenSplit). 2 ^ 126 ≤ unsigned_abs (number_at c.loop-i.sums.numbers.items reached.0) + y * form_size
          (cut_of s).form) c.index-splits-i.is reached.1),
    ))
