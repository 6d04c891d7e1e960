use Rattle.std.proofs.Common.{◌≡◌, drop, map}
use Rattle.std.specs.List.{list_all}
use Rattle.program_rows.specs.Parts.{shown_row}
use Rattle.program_rows.specs.inside.Comparing as comparing
use Rattle.program_rows.proofs.same.are_rows_among.Given as goal

-- those so far pass
abbrev pub invariant-loop-i : goal.invariant-loop-i
invariant-loop-i l = list_all (comparing.row_stands (map shown_row l.others)) (map shown_row l.rows)
    ≡ list_all (comparing.row_stands (map shown_row l.others)) (drop l.i (map shown_row l.rows))
