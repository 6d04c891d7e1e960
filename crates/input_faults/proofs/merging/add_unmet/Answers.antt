use Rattle.std.proofs.Common.{List, subst}
use Rattle.auction_terms.specs.Judged.{Fault as Judged}
use Rattle.input_faults.specs.inside.Finding.{FindsMore}
use Rattle.input_faults.specs.declared.fault.Fault.{Fault}
use Rattle.input_faults.proofs.MergeFacts.{finds-both, finds-none}
use Rattle.input_faults.proofs.UnmetFacts.{unmet-next}
use Rattle.input_faults.proofs.merging.add_unmet.Goals as goal

pub loop-test-init : goal.loop-test-init
loop-test-init c = finds-none c.args.faults.now

pub loop-test-preserved : goal.loop-test-preserved
loop-test-preserved c =
    subst (λ (fs : List (Judged Fault)). FindsMore c.args.faults.now c.add_test.new.faults fs)
    (unmet-next c.args.tests.now c.loop-test.test-index _ c.loop-test-test.true)
    (finds-both _ _ _ _ _ c.loop-test.invariant c.in_ok-add_test.ensures)
