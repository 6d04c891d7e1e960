use Rattle.std.proofs.Common.{◌≡◌, ◌∙◌, ap}
use Rattle.auction_terms.specs.Groups.{has}
use Rattle.byte_sinks.proofs.AddingFacts.{Adds-then}
use Rattle.group_compiler.specs.Joining.{section_end, has_any, joined, opening, pages_for}
use Rattle.group_compiler.proofs.writing.add_section.Goals as goal

pub returns : goal.returns
returns g c =
    let any = has_any (joined c.args.section (pages_for (has c.args.group.now) c.args.pages.now)) in
    let front : c.opening.result.now ≡ opening c.args.section any = c.opening.ensures ∙ ap (opening c.args.section) c.text_has_lines-any.ensures in
    let end : c.closing.result.now ≡ section_end c.args.section any = c.closing.ensures ∙ ap (section_end c.args.section) c.text_has_lines-any.ensures in
    Adds-then (rw front at c.add.ensures) (Adds-then c.add_lines.ensures (rw end at c.add-2.ensures))
