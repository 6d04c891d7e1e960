use Rattle.std.proofs.Common.{◌++◌, ◌∙◌, ℕ, List, ap, sym, add-one}
use Rattle.desk_line.specs.Served.{disk_full, disk_full_times}
use Rattle.desk_line.proofs.Lines.{disk_full_more}
use Rattle.desk_line.proofs.line.disk_full_lines.Goals as goal

pub loop-place-preserved : goal.loop-place-preserved
loop-place-preserved c =
    c.in_ok-extend_from_slice.ensures.items ∙ ap (λ (l : List ℕ). l ++ disk_full) c.loop-place.invariant
    ∙ disk_full_more c.loop-place._place ∙ ap disk_full_times (sym (add-one c.loop-place._place))
