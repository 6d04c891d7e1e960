use Rattle.std.proofs.Common.{List, ◌-◌, length}
use Rattle.desk_line.specs.Fronts.{Step}
use Rattle.desk_line.specs.inside.Pieces.{IsBatchAnswered}
use Rattle.desk_line.proofs.line.answer.Given as goal

abbrev pub invariant-calls : goal.invariant-calls
invariant-calls g l =
    let m = g.M.Machine in
    (steps : List (Step g.row.M.Denot)) × IsBatchAnswered m.fronts m.answers l.fn.machine l.machine l.bytes l.told.items l.kept.items l.used l.count steps

abbrev pub decreases-calls : goal.decreases-calls
decreases-calls g l = length l.bytes - l.used
