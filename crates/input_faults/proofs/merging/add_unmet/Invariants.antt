use Rattle.std.proofs.Common.{map, take}
use Rattle.auction_terms.specs.AllFaults.{failed}
use Rattle.input_faults.specs.PartFaults.{unmet_fault}
use Rattle.input_faults.specs.inside.Finding.{FindsMore}
use Rattle.input_faults.proofs.merging.add_unmet.Given as goal

-- what is unmet of the tests so far is added
abbrev pub invariant-loop-test : goal.invariant-loop-test
invariant-loop-test l = FindsMore l.initial.faults l.faults (map unmet_fault (failed (take l.test-index l.tests)))
