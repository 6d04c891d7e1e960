use Rattle.std.proofs.Common.{drop}
use Rattle.auction_terms.proofs.FirstFaultFacts.{CheckedSoFar}
use Rattle.auction_input.specs.Parts.{part_fault, parts_from, parts_held, input_parts}
use Rattle.auction_input.proofs.parts.split_parts.Given as goal

abbrev pub invariant-loop-place : goal.invariant-loop-place
invariant-loop-place l = CheckedSoFar (part_fault l.fn.request) (input_parts l.fn.input) (parts_held l.parts.items)
    (parts_from l.place (drop l.place l.fn.input.texts))
