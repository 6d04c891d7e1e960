use Rattle.std.proofs.Common.{◌≡◌, ◌≤◌, ◌+◌, ◌⊎◌, [], length, true}
use Rattle.auction_input.specs.Parts.{cut_lines, heads_part, parts_in}
use Rattle.auction_input.specs.Places.{parts_counted}
use Rattle.auction_input.proofs.places.count_parts.Given as goal

abbrev pub invariant-loop-rest : goal.invariant-loop-rest
invariant-loop-rest l = (l.count + parts_counted l.fn.kind (parts_in 0 (cut_lines l.rest)) ≡ parts_counted l.fn.kind (parts_in 0 (cut_lines l.fn.text)))
    × (l.count + length l.rest ≤ length l.fn.text) × ((l.rest ≡ []) ⊎ (heads_part l.rest ≡ true))

abbrev pub decreases-loop-rest : goal.decreases-loop-rest
decreases-loop-rest l = length l.rest
