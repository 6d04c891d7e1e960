use Rattle.std.proofs.Common.{◌≡◌, ◌≤◌, ◌++◌, drop}
use Rattle.auction_terms.specs.Groups.{has}
use Rattle.program_rows.specs.Selections.{numbers_left}
use Rattle.program_rows.proofs.shared.numbers_left.Given as goal

-- the numbers so far, and those that are to come
abbrev pub invariant-loop-owner : goal.invariant-loop-owner
invariant-loop-owner l = (l.number ≤ l.owner-index) × (l.numbers.items ++ numbers_left (has l.group) l.number (drop l.owner-index l.owners)
    ≡ numbers_left (has l.group) 0 l.owners)
