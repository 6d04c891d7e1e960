use Rattle.std.proofs.Common.{◌∙◌, map, sym, arith}
use Rattle.std.proofs.lemmas.List.{length-map}
use Rattle.program_rows.specs.Parts.{shown_row}
use Rattle.program_rows.specs.inside.Comparing as comparing
use Rattle.program_rows.proofs.LookupFacts.{all_step, all_fails, all_end, shown_at}
use Rattle.program_rows.proofs.same.are_rows_among.Goals as goal

pub returns-then-not-is_among_rows : goal.returns-then-not-is_among_rows
returns-then-not-is_among_rows c = sym (c.loop-i.invariant ∙ all_fails (comparing.row_stands (map shown_row c.args.others.now))
    (map shown_row c.args.rows.now) c.loop-i.i (shown_row c.index-rows-i.result)
    (shown_at shown_row c.args.rows.now c.loop-i.i c.index-rows-i.result c.loop-i-test.true c.index-rows-i.is)
    (sym c.is_among_rows.ensures ∙ c.if-not-is_among_rows.true))

pub loop-i-preserved : goal.loop-i-preserved
loop-i-preserved c = c.loop-i.invariant ∙ all_step (comparing.row_stands (map shown_row c.args.others.now)) (map shown_row c.args.rows.now)
    c.loop-i.i (shown_row c.index-rows-i.result)
    (shown_at shown_row c.args.rows.now c.loop-i.i c.index-rows-i.result c.loop-i-test.true c.index-rows-i.is)
    (sym c.is_among_rows.ensures ∙ c.if-not-is_among_rows.false)

pub returns : goal.returns
returns c =
    let count = length-map c.args.rows.now shown_row in
    sym (c.loop-i.invariant ∙ all_end (comparing.row_stands (map shown_row c.args.others.now)) (map shown_row c.args.rows.now) c.loop-i.i (omega arith))
