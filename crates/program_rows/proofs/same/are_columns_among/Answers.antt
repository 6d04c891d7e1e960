use Rattle.std.proofs.Common.{◌∙◌, map, sym, arith}
use Rattle.program_rows.specs.Parts.{shown_row, shown_column}
use Rattle.program_rows.specs.inside.Comparing as comparing
use Rattle.program_rows.proofs.LookupFacts.{all_step, all_fails, all_end}
use Rattle.program_rows.proofs.same.are_columns_among.Goals as goal

pub returns-then-not-is_among_columns : goal.returns-then-not-is_among_columns
returns-then-not-is_among_columns c = sym (c.loop-i.invariant ∙ all_fails
    (comparing.column_stands (map shown_row c.args.rows.now) (map shown_row c.args.others.now) c.args.other_columns.now) c.args.columns.now
    c.loop-i.i (shown_column c.column.result) c.column.ensures (sym c.is_among_columns.ensures ∙ c.if-not-is_among_columns.true))

pub loop-i-preserved : goal.loop-i-preserved
loop-i-preserved c = c.loop-i.invariant ∙ all_step (comparing.column_stands (map shown_row c.args.rows.now)
    (map shown_row c.args.others.now) c.args.other_columns.now) c.args.columns.now c.loop-i.i (shown_column c.column.result)
    c.column.ensures (sym c.is_among_columns.ensures ∙ c.if-not-is_among_columns.false)

pub returns : goal.returns
returns c = sym (c.loop-i.invariant ∙ all_end (comparing.column_stands (map shown_row c.args.rows.now) (map shown_row c.args.others.now)
    c.args.other_columns.now) c.args.columns.now c.loop-i.i (omega arith))
