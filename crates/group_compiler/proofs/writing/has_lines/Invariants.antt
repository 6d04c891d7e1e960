use Rattle.std.proofs.Common.{◌≡◌, false, take}
use Rattle.auction_terms.specs.Groups.{has}
use Rattle.group_compiler.specs.Pages.{outside}
use Rattle.group_compiler.specs.Joining.{joined, has_any}
use Rattle.group_compiler.proofs.writing.has_lines.Given as goal

-- the pages so far have no lines
abbrev pub invariant-loop-place : goal.invariant-loop-place
invariant-loop-place l = has_any (joined l.section (outside (has l.group) 1 (take l.place l.pages))) ≡ false
