use Rattle.std.proofs.Common.{◌≡◌, drop}
use Rattle.auction_input.specs.PartCounts.{refused_unless}
use Rattle.auction_terms.specs.FirstFault.{first_failed}
use Rattle.auction_input.proofs.part_counts.check_each.Given as goal

-- the first test that fails is the first of those ahead
abbrev pub invariant-loop-test : goal.invariant-loop-test
invariant-loop-test l = first_failed (refused_unless l.tests) ≡ first_failed (refused_unless (drop l.test-index l.tests))
