use Rattle.std.proofs.Common.{◌≡◌, ◌⊎◌, [], true, length}
use Rattle.auction_input.specs.Parts.{cut_lines, heads_part, parts_held, parts_in}
use Rattle.auction_input.proofs.PartFacts.{CheckedAfter}
use Rattle.auction_input.proofs.parts.add_parts.Given as goal

abbrev pub invariant-loop-rest : goal.invariant-loop-rest
invariant-loop-rest l = CheckedAfter l.fn.request (parts_held l.fn.parts.items) (parts_in l.fn.number (cut_lines l.fn.text))
    (parts_held l.parts.items) (parts_in l.fn.number (cut_lines l.rest))
    × ((l.rest ≡ []) ⊎ (heads_part l.rest ≡ true))

abbrev pub decreases-loop-rest : goal.decreases-loop-rest
decreases-loop-rest l = length l.rest
