use Rattle.std.proofs.Common.{◌∙◌, arith, sym}
use Rattle.auction_terms.specs.Groups.{has}
use Rattle.group_compiler.proofs.OutsideFacts.{some_lines, still_none}
use Rattle.group_compiler.proofs.writing.has_lines.Goals as goal

pub returns-then-page_has_lines : goal.returns-then-page_has_lines
returns-then-page_has_lines c =
    some_lines c.args.section (has c.args.group.now) c.loop-place.place c.args.pages.now c.index-pages-place.result c.has.result
    (omega arith) c.index-pages-place.is c.has.ensures.member
    (sym c.page_has_lines.ensures ∙ c.if-page_has_lines.true)

pub loop-place-preserved : goal.loop-place-preserved
loop-place-preserved c =
    still_none c.args.section (has c.args.group.now) c.loop-place.place c.args.pages.now c.index-pages-place.result c.has.result
    (omega arith) c.index-pages-place.is c.has.ensures.member c.loop-place.invariant
    (sym c.page_has_lines.ensures ∙ c.if-page_has_lines.false)
