use Rattle.std.proofs.Common.{ℕ}
use Rattle.auction_terms.specs.Groups.{has}
use Rattle.byte_sinks.proofs.AddingFacts.{Adds-then, Adds-to}
use Rattle.group_compiler.proofs.PageLineFacts.{lines_for}
use Rattle.group_compiler.proofs.writing.add_lines.Goals as goal

pub returns : goal.returns
returns g c =
    let group : ℕ → _ = has c.args.group.now in
    Adds-to (Adds-then c.add_joined.ensures c.add.ensures)
    (lines_for c.args.section group c.args.pages.now c.forms.result.now c.lines.result.now c.forms.ensures.forms (rw c.lots.ensures at c.lines.ensures))
