use Rattle.std.proofs.Common.{◌≡◌, ◌≤◌, ◌+◌, ◌++◌, ℕ, List, [], length, map}
use Rattle.std.specs.Prelude.{All}
use Rattle.auction_terms.specs.AllFaults.{all_faults}
use Rattle.auction_terms.specs.Groups.{IsGroup}
use Rattle.auction_terms.specs.GroupsText.{group_faults, group_of, line_faults}
use Rattle.auction_terms.specs.Judged.{Fault, HoldsMore}
use Rattle.auction_terms.specs.Lines.{lines_of}
use Rattle.auction_terms.specs.declared.groups_text.GroupFault.{GroupFault}
use Rattle.auction_terms.specs.declared.limits.TheConstants.{MOST_GROUPS}
use Rattle.auction_terms.proofs.groups_text.judge_lines.Given as goal

abbrev pub invariant-loop-line : goal.invariant-loop-line
invariant-loop-line l = (so_far : List (Fault GroupFault)) × (accepted : List (List ℕ))
    × (group_faults l.bidders l.bytes ≡ so_far ++ all_faults (λ place before line. line_faults l.bidders place line) l.place accepted l.lines)
    × HoldsMore l.initial.faults l.faults so_far
    × (l.place + length l.lines ≡ 1 + length (lines_of l.bytes))
    × (so_far ≡ [] → l.groups.items ++ map (group_of l.bidders) l.lines ≡ map (group_of l.bidders) (lines_of l.bytes))
    × (length l.groups.items ≤ MOST_GROUPS) × (length l.groups.items + 1 ≤ l.place) × All IsGroup l.groups.items

abbrev pub decreases-loop-line : goal.decreases-loop-line
decreases-loop-line l = length l.lines
