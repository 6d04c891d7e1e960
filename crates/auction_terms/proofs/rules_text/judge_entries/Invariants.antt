use Rattle.std.proofs.Common.{List, length}
use Rattle.auction_terms.proofs.RulesTextFacts.{TakenSoFar}
use Rattle.auction_terms.specs.Judged.{Fault, HoldsMore}
use Rattle.auction_terms.specs.declared.rules_text.RulesFault.{RulesFault}
use Rattle.auction_terms.proofs.rules_text.judge_entries.Given as goal

abbrev pub invariant-loop-row : goal.invariant-loop-row
invariant-loop-row l = (so_far : List (Fault RulesFault)) × TakenSoFar l.fn.version l.initial.reader l.reader l.count l.draft so_far
    × HoldsMore l.initial.faults l.faults so_far

abbrev pub decreases-loop-row : goal.decreases-loop-row
decreases-loop-row l = length l.reader
