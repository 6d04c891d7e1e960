use Rattle.std.proofs.Common.{◌≡◌, ◌++◌, drop}
use Rattle.auction_terms.specs.Groups.{has}
use Rattle.program_rows.specs.Selections.{is_out, places_left}
use Rattle.program_rows.proofs.shared.places_left.Given as goal

-- the answer for the owner before, the places so far, and those that are to come
abbrev pub invariant-loop-i : goal.invariant-loop-i
invariant-loop-i l = (l.is_last_out ≡ is_out (has l.group) l.last)
    × (l.places.items ++ places_left (has l.group) l.i (drop l.i l.owners) ≡ places_left (has l.group) 0 l.owners)
