use Rattle.std.proofs.Common.{get_or, pos, rules, subst}
use Rattle.optimality.specs.declared.checker.OpenSplit.{OpenSplit}
use Rattle.optimality.specs.Adding.{AreGivenMore}
use Rattle.optimality.specs.inside.Adding.{form_given}
use Rattle.optimality.specs.Holding.{cut_of}
use Rattle.optimality.proofs.StepFacts.{cuts-step}
use Rattle.optimality.proofs.narrow_sums.add_cuts.Goals as goal

pub loop-i-preserved : goal.loop-i-preserved
loop-i-preserved c =
    let split = c.index-splits-i.result in
    cuts-step c.args.multipliers.now c.args.splits.now c.loop-i.i 0 split c.args.sums.now c.loop-i.sums c.add_cut.new.sums (search rules) (search rules)
    (subst (λ (s : OpenSplit). AreGivenMore (form_given (pos (get_or c.args.multipliers.now c.loop-i.i 0)) (cut_of s).form) c.loop-i.sums
    c.add_cut.new.sums) c.index-splits-i.is c.in_ok-add_cut.ensures) c.loop-i.invariant
