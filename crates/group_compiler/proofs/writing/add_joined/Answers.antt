use Rattle.std.proofs.Common.{arith, take}
use Rattle.auction_terms.specs.Groups.{has}
use Rattle.byte_sinks.proofs.AddingFacts.{Adds-then, Adds-to}
use Rattle.group_compiler.specs.Pages.{outside}
use Rattle.group_compiler.specs.Joining.{joined}
use Rattle.group_compiler.proofs.OutsideFacts.{next_page}
use Rattle.group_compiler.proofs.writing.add_joined.Goals as goal

pub loop-place-preserved : goal.loop-place-preserved
loop-place-preserved g c =
    Adds-to (Adds-then {xs = joined c.args.section (outside (has c.args.group.now) 1 (take c.loop-place.place c.args.pages.now))}
    c.loop-place.invariant c.add_page.ensures)
    (next_page c.args.section (has c.args.group.now) c.loop-place.place c.args.pages.now c.index-pages-place.result c.has-is_out.result
    (omega arith) c.index-pages-place.is c.has-is_out.ensures.member)
